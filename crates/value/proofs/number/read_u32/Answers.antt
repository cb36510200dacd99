use Rattle.std.proofs.Common.{arith}
use Rattle.value.proofs.NumberLaws.{number_4}
use Rattle.value.proofs.PaddedLaws.{number_front}
use Rattle.value.proofs.number.read_u32.Goals as goal

pub returns : goal.returns
returns c = omega (arith, number_4 c.padded.result, number_front 4 c.args.at c.args.row.now _ c.padded.result c.rest.ensures.is c.padded.ensures)
