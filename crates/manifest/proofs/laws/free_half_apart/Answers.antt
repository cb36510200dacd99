use Rattle.manifest.proofs.CommitLaws.{free_half_apart}
use Rattle.manifest.proofs.laws.free_half_apart.Goals as goal

pub returns : goal.returns
returns c = free_half_apart
