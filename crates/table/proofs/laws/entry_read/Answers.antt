use Rattle.table.proofs.LieLaws.{entry_read}
use Rattle.table.proofs.laws.entry_read.Goals as goal

pub returns : goal.returns
returns c = entry_read
