use Rattle.memtable.proofs.AnswerLaws.{empty_right}
use Rattle.memtable.proofs.laws.empty_holds_none.Goals as goal

pub returns : goal.returns
returns c = empty_right
