use Rattle.std.proofs.Common.{ℕ, ◌+◌, ◌*◌, length, set, ap, ◌∙◌, rules, arith}
use Rattle.std.proofs.lemmas.List.{length-drop}
use Rattle.memtable.specs.Words.{word}
use Rattle.memtable.proofs.WordLaws.{cut_off, pack_begun, pack_more, pack_all}
use Rattle.memtable.proofs.words.put_bytes.Goals as goal

pub loop-k-init : goal.loop-k-init
loop-k-init c = record { written = search (rules, pack_begun); left = search rules; size = search rules; within = search rules }

pub bounds-ws-at : goal.bounds-ws-at
bounds-ws-at c =
    let s = c.in-Some.ensures.steps in
    let i = c.loop-k.invariant in
    let cut = cut_off c.args.bs.now _ _ _ c.loop-k.k-iterator.count _ i.left i.size s.0.1.0 s.0.1.1 s.0.1.2 in
    omega (arith, cut.within)

pub loop-k-preserved : goal.loop-k-preserved
loop-k-preserved c =
    let s = c.in-Some.ensures.steps in
    let i = c.loop-k.invariant in
    let cut = cut_off c.args.bs.now _ _ _ c.loop-k.k-iterator.count _ i.left i.size s.0.1.0 s.0.1.1 s.0.1.2 in
    rw (s.2, s.1) (record {
      written = rw (c.first_word.ensures ∙ cut.is) (ap (λ ws. set ws (c.args.at + c.loop-k.k-iterator.count) (word c.args.bs.now (8 * c.loop-k.k-iterator.count))) i.written ∙ pack_more c.args.ws.now c.args.at c.args.bs.now c.loop-k.k-iterator.count (omega (arith, cut.within)) cut.within);
      left = cut.left;
      size = s.0.0 ∙ i.size;
      within = omega (arith, cut.within);
    })

pub returns : goal.returns
returns c =
    let s = c.in-None.ensures.steps in
    let i = c.loop-k.invariant in
    i.written ∙ pack_all c.args.ws.now c.args.at c.args.bs.now c.loop-k.k-iterator.count (omega (arith, s.0.1.0, i.within, ap length i.left, length-drop {A = ℕ}))
