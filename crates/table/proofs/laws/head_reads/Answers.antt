use Rattle.table.proofs.ReadingLaws.{head_reads}
use Rattle.table.proofs.laws.head_reads.Goals as goal

pub returns : goal.returns
returns c = head_reads
