use Rattle.table.proofs.WritingLaws.{takes}
use Rattle.table.proofs.laws.writer_takes.Goals as goal

pub returns : goal.returns
returns c = takes
