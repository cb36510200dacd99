use Rattle.std.proofs.Common.{◌≡◌, ◌+◌, ◌-◌, ◌++◌, length, take, drop, ◌∙◌, arith}
use Rattle.store.specs.Regions.{region, within}
use Rattle.flushing_store.proofs.WrapLaws.{wraps_same}
use Rattle.flushing_store.proofs.words.put_words.Goals as goal

pub returns : goal.returns
unfolding within region
returns c =
    let at = c.args.at in
    let m = c.args.memory.now in
    let ws = c.args.words.now in
    let n : at + length ws - at ≡ length ws = omega arith in
    (λ i. take at m ++ ((c.copy_from_slice.ensures.after ∙ wraps_same ws (λ k. let f = c.type_inv.words k in omega arith)) i ++ drop (n i) (drop at m)))
