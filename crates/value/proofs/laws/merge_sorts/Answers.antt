use Rattle.value.proofs.MergeLaws.{merge_right}
use Rattle.value.proofs.laws.merge_sorts.Goals as goal

pub returns : goal.returns
returns c = merge_right
