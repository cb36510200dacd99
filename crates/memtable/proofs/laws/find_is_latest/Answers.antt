use Rattle.memtable.proofs.AnswerLaws.{find_right}
use Rattle.memtable.proofs.laws.find_is_latest.Goals as goal

pub returns : goal.returns
returns c = find_right
