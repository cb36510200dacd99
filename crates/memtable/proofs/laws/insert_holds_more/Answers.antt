use Rattle.memtable.proofs.InsertLaws.{insert_right}
use Rattle.memtable.proofs.laws.insert_holds_more.Goals as goal

pub returns : goal.returns
returns c = insert_right
