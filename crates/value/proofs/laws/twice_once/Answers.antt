use Rattle.value.proofs.KeptLaws.{twice_once}
use Rattle.value.proofs.laws.twice_once.Goals as goal

pub returns : goal.returns
returns c = twice_once
