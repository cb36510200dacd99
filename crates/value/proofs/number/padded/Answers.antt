use Rattle.value.proofs.PaddedLaws.{padded_copied}
use Rattle.value.proofs.number.padded.Goals as goal

pub returns : goal.returns
returns g c = padded_copied g.row.N c.min-len.result c.args.row.now _ c.min-len.ensures c.copy_from_slice.ensures.after
