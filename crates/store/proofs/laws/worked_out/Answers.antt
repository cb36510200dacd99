use Rattle.store.proofs.WorkedLaws.{worked_out}
use Rattle.store.proofs.laws.worked_out.Goals as goal

pub returns : goal.returns
returns c = worked_out
