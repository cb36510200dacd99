use Rattle.std.proofs.Common.{arith}
use Rattle.value.proofs.NumberLaws.{number_8}
use Rattle.value.proofs.PaddedLaws.{number_front}
use Rattle.value.proofs.number.read_u64.Goals as goal

pub returns : goal.returns
returns c = omega (arith, number_8 c.padded.result, number_front 8 c.args.at c.args.row.now _ c.padded.result c.rest.ensures.is c.padded.ensures)
