use Rattle.table.proofs.ReadingLaws.{block_reads}
use Rattle.table.proofs.laws.block_reads.Goals as goal

pub returns : goal.returns
returns c = block_reads
