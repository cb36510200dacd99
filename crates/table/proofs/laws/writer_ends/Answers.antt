use Rattle.table.proofs.WritingLaws.{ends}
use Rattle.table.proofs.laws.writer_ends.Goals as goal

pub returns : goal.returns
returns c = ends
