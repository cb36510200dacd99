use Rattle.table.proofs.LieLaws.{lies_elsewhere}
use Rattle.table.proofs.laws.lies_elsewhere.Goals as goal

pub returns : goal.returns
returns c = lies_elsewhere
