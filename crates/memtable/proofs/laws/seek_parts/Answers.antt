use Rattle.memtable.proofs.AnswerLaws.{seek_right}
use Rattle.memtable.proofs.laws.seek_parts.Goals as goal

pub returns : goal.returns
returns c = seek_right
