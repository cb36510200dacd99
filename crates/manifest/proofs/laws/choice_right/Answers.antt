use Rattle.manifest.proofs.CommitLaws.{choice_right}
use Rattle.manifest.proofs.laws.choice_right.Goals as goal

pub returns : goal.returns
returns c = choice_right
