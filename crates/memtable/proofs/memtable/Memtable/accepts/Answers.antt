use Rattle.std.proofs.Common.{arith}
use Rattle.std.proofs.lemmas.Bool.Decides.{nat_tests}
use Rattle.memtable.specs.Memtable.{accepts}
use Rattle.memtable.proofs.memtable.Memtable.accepts.Goals as goal
use Rattle.memtable.proofs.memtable.Memtable.accepts.Goals.{then-has_room, else-has_room}

pub returns-then-self-index : goal.returns-then-self-index
unfolding accepts
returns-then-self-index c = grind (arith, nat_tests)

pub returns-else-self-index : goal.returns-else-self-index
unfolding accepts
returns-else-self-index c = grind (arith, nat_tests)
