use Rattle.store.proofs.DeviceLaws.{settled_stays}
use Rattle.store.proofs.laws.settled_stays.Goals as goal

pub returns : goal.returns
returns c = settled_stays
