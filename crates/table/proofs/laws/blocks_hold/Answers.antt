use Rattle.table.proofs.SizeLaws.{blocks_hold}
use Rattle.table.proofs.laws.blocks_hold.Goals as goal

pub returns : goal.returns
returns c = blocks_hold
