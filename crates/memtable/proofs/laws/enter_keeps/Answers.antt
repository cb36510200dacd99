use Rattle.memtable.proofs.SteadyLaws.{enter_keeps}
use Rattle.memtable.proofs.laws.enter_keeps.Goals as goal

pub returns : goal.returns
returns c = enter_keeps
