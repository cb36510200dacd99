-- Five laws, once for all regions of memory.
use Rattle.std.proofs.Common.{◌≡◌, ℕ, ◌+◌, ◌≤◌, List, ◌++◌, length, take, drop, sym, ap, ◌∙◌, arith, length-append, length-drop, length-take}
use Rattle.std.proofs.lemmas.List.{drop_at, take_at, length-take-le, drop-take}
use Rattle.std.proofs.lemmas.Slice.{drop-put_mid, take-put_mid_below}
use Rattle.store.specs.Regions.{region, within}

pub length_within : (a n : ℕ) (f : List ℕ → List ℕ) (m : List ℕ) → a + n ≤ length m → length (f (region a n m)) ≡ n → length (within a n f m) ≡ length m
unfolding region within
length_within a n f m h e = simp (length-append, length-take, length-drop) (omega arith)

pub region_same : (a n : ℕ) (f : List ℕ → List ℕ) (m : List ℕ) → a + n ≤ length m → length (f (region a n m)) ≡ n → region a n (within a n f m) ≡ f (region a n m)
unfolding region within
region_same a n f m h e =
    ap (take n) (drop_at (take a m) (f (region a n m) ++ drop n (drop a m)) a (length-take-le a m (omega arith))) ∙ take_at (f (region a n m)) (drop n (drop a m)) n e

pub region_above : (a n b k : ℕ) (f : List ℕ → List ℕ) (m : List ℕ) → a + n ≤ length m → length (f (region a n m)) ≡ n → a + n ≤ b → region b k (within a n f m) ≡ region b k m
unfolding region within
region_above a n b k f m h e le = ap (take k) (drop-put_mid a n m (f (region a n m)) b le (omega arith) e)

pub region_below : (a n b k : ℕ) (f : List ℕ → List ℕ) (m : List ℕ) → a + n ≤ length m → b + k ≤ a → region b k (within a n f m) ≡ region b k m
unfolding region within
region_below a n b k f m h le = sym (drop-take b k _) ∙ ap (drop b) (take-put_mid_below a n m (f (region a n m)) (b + k) le (omega arith)) ∙ drop-take b k m

pub length_region : (a n : ℕ) (m : List ℕ) → a + n ≤ length m → length (region a n m) ≡ n
unfolding region
length_region a n m h = length-take-le n (drop a m) (omega (arith, length-drop a m))

-- what is written back to a part
pub within_is : (a n : ℕ) (f : List ℕ → List ℕ) (m x : List ℕ) → x ≡ f (take n (drop a m)) → take a m ++ (x ++ drop n (drop a m)) ≡ within a n f m
unfolding within region
within_is a n f m x e = ap (λ z. take a m ++ (z ++ drop n (drop a m))) e
