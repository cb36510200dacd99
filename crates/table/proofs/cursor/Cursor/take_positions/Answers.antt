use Rattle.std.proofs.Common.{rules}
use Rattle.table.specs.Cursor.{list_with}
use Rattle.table.proofs.cursor.Cursor.take_positions.Goals as goal

pub returns : goal.returns
unfolding list_with
returns c = search rules
