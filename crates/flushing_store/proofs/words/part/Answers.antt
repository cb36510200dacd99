use Rattle.std.proofs.Common.{◌≡◌, ◌+◌, ◌-◌, take, drop, ap, ◌∙◌, arith}
use Rattle.store.specs.Regions.{region}
use Rattle.flushing_store.proofs.words.part.Goals as goal

pub returns : goal.returns
unfolding region
returns g c =
    let at = c.args.at in
    let n : at + g.row.N - at ≡ g.row.N = omega arith in
    c.from_words.ensures ∙ ap g.T.Words.given (c.copy_from_slice.ensures.after ∙ (λ i. take (n i) (drop at c.args.memory.now)))
