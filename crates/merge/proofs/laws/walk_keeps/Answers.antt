use Rattle.merge.proofs.WalkLaws.{walk_keeps}
use Rattle.merge.proofs.laws.walk_keeps.Goals as goal

pub returns : goal.returns
returns c = walk_keeps
