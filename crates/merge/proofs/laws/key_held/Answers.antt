use Rattle.merge.proofs.WalkLaws.{holds}
use Rattle.merge.proofs.laws.key_held.Goals as goal

pub returns : goal.returns
returns c = holds
