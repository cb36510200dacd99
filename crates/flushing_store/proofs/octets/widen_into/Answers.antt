use Rattle.std.proofs.Common.{length, ◌∙◌, arith}
use Rattle.table.specs.Row.{octets}
use Rattle.table.proofs.RowLaws.{length_octets}
use Rattle.value.proofs.FromFnLaws.{placed_more, placed_all}
use Rattle.flushing_store.proofs.OctetLaws.{octet_of}
use Rattle.flushing_store.proofs.octets.widen_into.Goals as goal

pub loop-i-preserved : goal.loop-i-preserved
loop-i-preserved c =
    let n = length c.args.row.now in
    let bs = c.args.bytes.now in
    placed_more (octets n bs) c.loop-i.row c.loop-i.i c.from.result (omega (arith, c.loop-i.auto.row))
    (octet_of bs n c.loop-i.i c.from.result c.type_inv.bytes (omega arith) (c.from.ensures ∙ c.byte.ensures)) c.loop-i.invariant

pub returns : goal.returns
returns c =
    let n = length c.args.row.now in
    placed_all (octets n c.args.bytes.now) c.loop-i.row n c.loop-i.i c.loop-i.auto.row (length_octets n c.args.bytes.now) (omega arith) c.loop-i.invariant
