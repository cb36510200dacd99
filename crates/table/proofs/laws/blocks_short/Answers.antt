use Rattle.table.proofs.SizeLaws.{blocks_short}
use Rattle.table.proofs.laws.blocks_short.Goals as goal

pub returns : goal.returns
returns c = blocks_short
