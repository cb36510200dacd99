use Rattle.table.proofs.LayoutLaws.{entries_are_blocks}
use Rattle.table.proofs.laws.entries_are_blocks.Goals as goal

pub returns : goal.returns
returns c = entries_are_blocks
