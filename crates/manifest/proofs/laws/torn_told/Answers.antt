use Rattle.manifest.proofs.CommitLaws.{torn_told}
use Rattle.manifest.proofs.laws.torn_told.Goals as goal

pub returns : goal.returns
returns c = torn_told
