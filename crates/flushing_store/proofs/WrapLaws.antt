-- Words of 64 bits stay as they are when they are cut to 64 bits.
use Rattle.std.proofs.Common.{◌≡◌, ℕ, suc, ◌<◌, List, [], ◌∷◌, get_or, refl, arith}
use Rattle.flushing_store.specs.Control.{wraps}
use Rattle.store.specs.Regions.{wrap}

pub wraps_same : (ws : List ℕ) → ((i : ℕ) → get_or ws i 0 < 18446744073709551616) → ws ≡ wraps ws
unfolding wraps
wraps_same [] f = refl
wraps_same (w ∷ ws) f =
    let h = f 0 in
    let e : w ≡ wrap w = omega arith in
    (λ i. e i ∷ wraps_same ws (λ j. f (suc j)) i)
