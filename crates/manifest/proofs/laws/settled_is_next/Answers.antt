use Rattle.manifest.proofs.CommitLaws.{settled_is_next}
use Rattle.manifest.proofs.laws.settled_is_next.Goals as goal

pub returns : goal.returns
returns c = settled_is_next
