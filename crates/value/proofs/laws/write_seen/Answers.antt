use Rattle.value.proofs.LatestLaws.{write_seen}
use Rattle.value.proofs.laws.write_seen.Goals as goal

pub returns : goal.returns
returns c = write_seen
