use Rattle.value.proofs.KeptLaws.{not_missed}
use Rattle.value.proofs.laws.not_missed.Goals as goal

pub returns : goal.returns
returns c = not_missed
