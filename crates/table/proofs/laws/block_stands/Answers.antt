use Rattle.table.proofs.SizeLaws.{block_stands}
use Rattle.table.proofs.laws.block_stands.Goals as goal

pub returns : goal.returns
returns c = block_stands
