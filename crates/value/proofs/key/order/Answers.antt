use Rattle.value.proofs.OrderLaws.{order_said}
use Rattle.value.proofs.key.order.Goals as goal

pub returns : goal.returns
returns c = order_said _ _ _ c.cmp.ensures
