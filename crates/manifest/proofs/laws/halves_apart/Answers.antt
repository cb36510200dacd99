use Rattle.manifest.proofs.PlaceLaws.{halves_apart}
use Rattle.manifest.proofs.laws.halves_apart.Goals as goal

pub returns : goal.returns
returns c = halves_apart
