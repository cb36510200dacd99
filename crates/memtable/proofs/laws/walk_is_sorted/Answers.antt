use Rattle.memtable.proofs.AnswerLaws.{walk_right}
use Rattle.memtable.proofs.laws.walk_is_sorted.Goals as goal

pub returns : goal.returns
returns c = walk_right
