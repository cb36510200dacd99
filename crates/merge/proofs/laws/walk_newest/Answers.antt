use Rattle.merge.proofs.NewestLaws.{walk_newest}
use Rattle.merge.proofs.laws.walk_newest.Goals as goal

pub returns : goal.returns
returns c = walk_newest
