use Rattle.std.proofs.Common.{take, set, sym, ap, ◌∙◌, arith}
use Rattle.std.proofs.lemmas.List.{length-take}
use Rattle.memtable.specs.Words.{row}
use Rattle.memtable.proofs.WordLaws.{length_row, get_or_row, laid_more, laid_all}
use Rattle.memtable.proofs.words.unpack_into.Goals as goal

pub loop-i-preserved : goal.loop-i-preserved
loop-i-preserved c =
    let l = length-take c.min-m.result c.args.out.now in
    ap (λ o. set o c.loop-i.i c.byte_behind.result) c.loop-i.invariant
    ∙ laid_more (row c.args.ws.now c.args.place c.args.s c.args.n) (take c.min-m.result c.args.out.now) c.loop-i.i c.byte_behind.result
    (omega (arith, length_row c.args.ws.now c.args.place c.args.s c.args.n)) (omega arith)
    (c.byte_behind.ensures ∙ sym (get_or_row c.args.ws.now c.args.place c.args.s c.args.n c.loop-i.i (omega arith)))

pub returns : goal.returns
returns c =
    let l = length-take c.min-m.result c.args.out.now in
    laid_all _ c.args.out.now _ _ _ c.args.n (length_row c.args.ws.now c.args.place c.args.s c.args.n) c.min-m.ensures (omega arith) c.loop-i.invariant
