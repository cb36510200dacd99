use Rattle.memtable.proofs.AnswerLaws.{sizes_suffice}
use Rattle.memtable.proofs.laws.sizes_suffice.Goals as goal

pub returns : goal.returns
returns c = sizes_suffice
