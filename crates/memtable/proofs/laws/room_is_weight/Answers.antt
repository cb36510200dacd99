use Rattle.memtable.proofs.InsertLaws.{room_right}
use Rattle.memtable.proofs.laws.room_is_weight.Goals as goal

pub returns : goal.returns
returns c = room_right
