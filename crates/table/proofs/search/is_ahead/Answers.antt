use Rattle.std.proofs.Common.{arith}
use Rattle.std.proofs.lemmas.Bool.Decides.{nat_tests}
use Rattle.value.specs.Order.{OrderSays}
use Rattle.table.specs.Blocks.{ahead}
use Rattle.table.proofs.search.is_ahead.Goals as goal

pub returns-in-Less : goal.returns-in-Less
unfolding ahead OrderSays
returns-in-Less c = grind (arith, nat_tests, c.in-Less.ensures)

pub returns-in-Equal : goal.returns-in-Equal
unfolding ahead OrderSays
returns-in-Equal c = grind (arith, nat_tests, c.in-Equal.ensures)

pub returns-in-Greater : goal.returns-in-Greater
unfolding ahead OrderSays
returns-in-Greater c = grind (arith, nat_tests, c.in-Greater.ensures)
