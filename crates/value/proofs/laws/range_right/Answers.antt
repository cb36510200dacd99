use Rattle.value.proofs.SeenLaws.{range_right}
use Rattle.value.proofs.laws.range_right.Goals as goal

pub returns : goal.returns
returns c = range_right
