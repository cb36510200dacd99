use Rattle.table.proofs.WritingLaws.{puts}
use Rattle.table.proofs.laws.writer_puts.Goals as goal

pub returns : goal.returns
returns c = puts
