use Rattle.merge.proofs.ChoiceLaws.{choice_merges}
use Rattle.merge.proofs.laws.choice_merges.Goals as goal

pub returns : goal.returns
returns c = choice_merges
