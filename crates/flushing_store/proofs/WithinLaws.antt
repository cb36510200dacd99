-- What is done within a region of memory keeps its length, and its numbers small.
use Rattle.std.proofs.Common.{◌≡◌, ℕ, zero, suc, ◌+◌, ◌<◌, ◌≤◌, true, ltb, List, [], ◌∷◌, ◌++◌, length, get_or, take, drop, replicate, refl, ap, arith, length-append, length-drop, length-take, ltb-true, lt-ltb}
use Rattle.value.specs.Versions.{every}
use Rattle.value.specs.Numbers.{put_at}
use Rattle.value.proofs.TestLaws.{and_left_of, and_right_of, every_append}
use Rattle.store.specs.Promise.{all_small}
use Rattle.flushing_store.specs.Control.{wraps}
use Rattle.store.specs.Regions.{wrap, region, within}

-- LENGTHS
pub length_wraps : (ws : List ℕ) → length (wraps ws) ≡ length ws
unfolding wraps
length_wraps [] = refl
length_wraps (w ∷ ws) = ap suc (length_wraps ws)

pub length_put_at : (at : ℕ) (ys row : List ℕ) → at + length ys ≤ length row → length (put_at at ys row) ≡ length row
length_put_at at ys row h = simp (length-append, length-take, length-drop) (omega arith)

-- SMALL NUMBERS
pub small_take : (n : ℕ) (m : List ℕ) → all_small m ≡ true → all_small (take n m) ≡ true
unfolding all_small every
small_take zero m a = refl
small_take (suc n) [] a = refl
small_take (suc n) (y ∷ m) a = rw (and_left_of (ltb y 18446744073709551616) _ a) (small_take n m (and_right_of (ltb y 18446744073709551616) _ a))

pub small_drop : (n : ℕ) (m : List ℕ) → all_small m ≡ true → all_small (drop n m) ≡ true
unfolding all_small every
small_drop zero m a = a
small_drop (suc n) [] a = refl
small_drop (suc n) (y ∷ m) a = small_drop n m (and_right_of (ltb y 18446744073709551616) _ a)

pub small_append : (xs ys : List ℕ) → all_small xs ≡ true → all_small ys ≡ true → all_small (xs ++ ys) ≡ true
unfolding all_small
small_append xs ys a b = every_append (λ m. ltb m 18446744073709551616) xs ys a b

pub small_getD : (m : List ℕ) (i : ℕ) → all_small m ≡ true → get_or m i 0 < 18446744073709551616
unfolding all_small every
small_getD [] i a = omega arith
small_getD (y ∷ m) zero a = ltb-true y 18446744073709551616 (and_left_of (ltb y 18446744073709551616) _ a)
small_getD (y ∷ m) (suc i) a = small_getD m i (and_right_of (ltb y 18446744073709551616) _ a)

pub small_cons : (x : ℕ) (xs : List ℕ) → x < 18446744073709551616 → all_small xs ≡ true → all_small (x ∷ xs) ≡ true
unfolding all_small every
small_cons x xs h a = rw (lt-ltb x 18446744073709551616 h) a

pub small_zeros : (n : ℕ) → all_small (replicate n 0) ≡ true
unfolding all_small every
small_zeros zero = refl
small_zeros (suc n) = small_zeros n

pub small_wraps : (ws : List ℕ) → all_small (wraps ws) ≡ true
unfolding wraps all_small every
small_wraps [] = refl
small_wraps (w ∷ ws) = small_cons (wrap w) (wraps ws) (omega arith) (small_wraps ws)

pub small_put_at : (at : ℕ) (ys row : List ℕ) → all_small ys ≡ true → all_small row ≡ true → all_small (put_at at ys row) ≡ true
small_put_at at ys row a b =
    small_append (take at row) (ys ++ drop (length ys) (drop at row)) (small_take at row b) (small_append ys (drop (length ys) (drop at row)) a (small_drop (length ys) (drop at row) (small_drop at row b)))

pub small_region : (a n : ℕ) (m : List ℕ) → all_small m ≡ true → all_small (region a n m) ≡ true
unfolding region
small_region a n m h = small_take n (drop a m) (small_drop a m h)

pub small_within : (a n : ℕ) (f : List ℕ → List ℕ) (m : List ℕ) → all_small m ≡ true → all_small (f (region a n m)) ≡ true → all_small (within a n f m) ≡ true
unfolding within
small_within a n f m h e =
    small_append (take a m) (f (region a n m) ++ drop n (drop a m)) (small_take a m h) (small_append (f (region a n m)) (drop n (drop a m)) e (small_drop n (drop a m) (small_drop a m h)))
