use Rattle.std.proofs.Common.{arith}
use Rattle.value.proofs.NumberLaws.{number_2}
use Rattle.value.proofs.PaddedLaws.{number_front}
use Rattle.value.proofs.number.read_u16.Goals as goal

pub returns : goal.returns
returns c = omega (arith, number_2 c.padded.result, number_front 2 c.args.at c.args.row.now _ c.padded.result c.rest.ensures.is c.padded.ensures)
