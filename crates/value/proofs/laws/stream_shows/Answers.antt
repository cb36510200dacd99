use Rattle.value.proofs.VisibleLaws.{visible_right}
use Rattle.value.proofs.laws.stream_shows.Goals as goal

pub returns : goal.returns
returns c = visible_right
