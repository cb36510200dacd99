use Rattle.table.proofs.WritingLaws.{gives}
use Rattle.table.proofs.laws.writer_gives.Goals as goal

pub returns : goal.returns
returns c = gives
