use Rattle.table.proofs.ReadingLaws.{block_finds}
use Rattle.table.proofs.laws.block_finds.Goals as goal

pub returns : goal.returns
returns c = block_finds
