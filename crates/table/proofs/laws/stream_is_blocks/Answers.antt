use Rattle.table.proofs.LayoutLaws.{stream_is_blocks}
use Rattle.table.proofs.laws.stream_is_blocks.Goals as goal

pub returns : goal.returns
returns c = stream_is_blocks
