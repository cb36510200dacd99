use Rattle.memtable.proofs.SteadyLaws.{insert_keeps}
use Rattle.memtable.proofs.laws.insert_keeps.Goals as goal

pub returns : goal.returns
returns c = insert_keeps
