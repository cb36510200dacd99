use Rattle.store.proofs.WholeLaws.{steps_suffice}
use Rattle.store.proofs.laws.steps_suffice.Goals as goal

pub returns : goal.returns
returns c = steps_suffice
