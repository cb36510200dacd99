use Rattle.std.proofs.Common.{length, sym, ◌∙◌, arith}
use Rattle.value.proofs.FromFnLaws.{placed_more, placed_all}
use Rattle.table.specs.Row.{octets}
use Rattle.table.proofs.RowLaws.{length_octets, octet_at}
use Rattle.table.proofs.row.read_octets.Goals as goal

pub loop-i-preserved : goal.loop-i-preserved
loop-i-preserved c =
    let n = length c.args.out.now in
    let row = c.args.row.now in
    placed_more (octets n row) c.loop-i.out c.loop-i.i c.octet.result (omega (arith, c.loop-i.auto.out))
    (c.octet.ensures ∙ sym (octet_at n row c.loop-i.i (omega arith))) c.loop-i.invariant

pub returns : goal.returns
returns c =
    let n = length c.args.out.now in
    placed_all (octets n c.args.row.now) c.loop-i.out n c.loop-i.i c.loop-i.auto.out (length_octets n c.args.row.now) (omega arith) c.loop-i.invariant
