use Rattle.memtable.proofs.AnswerLaws.{written_right}
use Rattle.memtable.proofs.laws.written_is_any.Goals as goal

pub returns : goal.returns
returns c = written_right
