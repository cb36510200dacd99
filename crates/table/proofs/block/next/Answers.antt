use Rattle.std.proofs.Common.{◌∙◌, arith}
use Rattle.table.proofs.ReadingLaws.{parsed_past}
use Rattle.table.proofs.block.next.Goals as goal

pub returns-in_err-checked_add : goal.returns-in_err-checked_add
returns-in_err-checked_add c = c.from_residual.ensures ∙ parsed_past c.args.block.now _ (omega (arith, c.in_err-checked_add.ensures))
