use Rattle.value.proofs.MergeLaws.{push_right}
use Rattle.value.proofs.laws.push_sorts.Goals as goal

pub returns : goal.returns
returns c = push_right
