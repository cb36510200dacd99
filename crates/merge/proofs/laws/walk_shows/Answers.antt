use Rattle.merge.proofs.WalkLaws.{walk_shows}
use Rattle.merge.proofs.laws.walk_shows.Goals as goal

pub returns : goal.returns
returns c = walk_shows
