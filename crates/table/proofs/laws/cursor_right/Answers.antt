use Rattle.table.proofs.CursorLaws.{cursor_right}
use Rattle.table.proofs.laws.cursor_right.Goals as goal

pub returns : goal.returns
returns c = cursor_right
