use Rattle.table.proofs.LieLaws.{block_read}
use Rattle.table.proofs.laws.block_read.Goals as goal

pub returns : goal.returns
returns c = block_read
