use Rattle.manifest.proofs.CommitLaws.{list_apart}
use Rattle.manifest.proofs.laws.list_apart.Goals as goal

pub returns : goal.returns
returns c = list_apart
