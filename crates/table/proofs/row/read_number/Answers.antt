use Rattle.std.proofs.Common.{arith}
use Rattle.value.proofs.NumberLaws.{number_4}
use Rattle.table.proofs.RowLaws.{number_of_octets}
use Rattle.table.proofs.row.read_number.Goals as goal

pub returns : goal.returns
returns c = omega (arith, number_4 c.octets.result, number_of_octets c.args.at c.args.row.now _ _ c.rest.ensures.is c.octets.ensures)
