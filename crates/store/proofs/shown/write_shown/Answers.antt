use Rattle.std.proofs.Common.{◌≡◌, ◌++◌, length, drop, sym, ◌∙◌, arith}
use Rattle.std.proofs.lemmas.List.{length-take-le}
use Rattle.store.specs.Shown.{row_of}
use Rattle.value.proofs.FromFnLaws.{placed_more, placed_all}
use Rattle.store.proofs.ShownLaws.{length_row_of}
use Rattle.store.proofs.shown.write_shown.Goals as goal

pub shown_byte-requires : goal.shown_byte-requires
shown_byte-requires c =
    let long = length-take-le c.min-len.result c.args.out.now (omega (arith, c.told-out)) in
    omega (arith, length_row_of c.args.key.now c.args.value.now)

pub loop-i-preserved : goal.loop-i-preserved
loop-i-preserved c =
    placed_more (row_of c.args.key.now c.args.value.now) c.loop-i.number-items c.loop-i.i c.shown_byte.result (omega (arith, c.loop-i.auto.number-items)) c.shown_byte.ensures c.loop-i.invariant

pub returns : goal.returns
returns c =
    let zs = row_of c.args.key.now c.args.value.now in
    let len : c.min-len.result ≡ length zs = omega (arith, length_row_of c.args.key.now c.args.value.now) in
    let long = length-take-le c.min-len.result c.args.out.now (omega (arith, c.told-out)) in
    let is = placed_all zs c.loop-i.number-items c.min-len.result c.loop-i.i (c.loop-i.auto.number-items ∙ long) (sym len) (omega arith) c.loop-i.invariant in
    record { len = len; row = λ i. is i ++ drop (len i) c.args.out.now }
