use Rattle.value.proofs.SortLaws.{sort_orders}
use Rattle.value.proofs.laws.sort_orders.Goals as goal

pub returns : goal.returns
returns c = sort_orders
