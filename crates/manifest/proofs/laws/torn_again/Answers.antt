use Rattle.manifest.proofs.CommitLaws.{torn_again}
use Rattle.manifest.proofs.laws.torn_again.Goals as goal

pub returns : goal.returns
returns c = torn_again
