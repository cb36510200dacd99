use Rattle.memtable.proofs.SteadyLaws.{append_keeps}
use Rattle.memtable.proofs.laws.append_keeps.Goals as goal

pub returns : goal.returns
returns c = append_keeps
