use Rattle.store.proofs.HouseLaws.{stop_twice}
use Rattle.store.proofs.laws.stop_twice.Goals as goal

pub returns : goal.returns
returns c = stop_twice
