use Rattle.store.proofs.HouseLaws.{nothing_new}
use Rattle.store.proofs.laws.nothing_new.Goals as goal

pub returns : goal.returns
returns c = nothing_new
