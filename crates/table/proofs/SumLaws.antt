-- The checksum, word by word.
use Rattle.std.proofs.Common.{◌≡◌, ℕ, zero, suc, ◌+◌, ◌-◌, ◌*◌, ◌^◌, ◌<◌, ◌≤◌, List, ◌++◌, length, take, drop, sym, refl, ap, ◌∙◌, arith, le-leb}
use Rattle.std.proofs.lemmas.List.{drop-drop, take-append-le, drop-append-le, length-drop}
use borrow.Author.Tests.{lt-leb}
use Rattle.value.specs.Numbers.{number, bytes_of}
use Rattle.value.proofs.NumberLaws.{length_bytes_of}
use Rattle.table.specs.Sum.{next_sum, sum_from, page_sum, sealed_page, BlankUnsound}

-- one turn: h with the word at i
pub sum_more : (i h k : ℕ) (bs : List ℕ) → i < 63 → k ≡ next_sum h (number (take 8 (drop (i * 8) bs))) → sum_from (63 - i) h (drop (i * 8) bs) ≡ sum_from (63 - (i + 1)) k (drop ((i + 1) * 8) bs)
unfolding sum_from
sum_more i h k bs l e =
    let n : 63 - i ≡ suc (63 - (i + 1)) = omega arith in
    let m : i * 8 + 8 ≡ (i + 1) * 8 = omega arith in
    ap (λ t. sum_from t h (drop (i * 8) bs)) n
    ∙ ap (λ t. sum_from (63 - (i + 1)) (next_sum h (number (take 8 (drop (i * 8) bs)))) t) (drop-drop 8 (i * 8) bs)
    ∙ (λ j. sum_from (63 - (i + 1)) (sym e j) (drop (m j) bs))

pub sum_none : (bs : List ℕ) → sum_from (63 - 0) 1 (drop (0 * 8) bs) ≡ page_sum bs
unfolding page_sum
sum_none bs = refl

pub sum_all : (i h : ℕ) (bs : List ℕ) → 63 ≤ i → sum_from (63 - i) h (drop (i * 8) bs) ≡ h
unfolding sum_from
sum_all i h bs l = let n : 63 - i ≡ 0 = omega arith in ap (λ t. sum_from t h (drop (i * 8) bs)) n

-- a page and its sum
pub sealed_long : (p ys : List ℕ) (s : ℕ) → 512 ≤ length p → s ≡ page_sum p → ys ≡ bytes_of 8 s → take 504 p ++ (ys ++ drop 8 (drop 504 p)) ≡ sealed_page p
unfolding sealed_page
sealed_long p ys s h e f =
    rw (le-leb 512 (length p) h, length_bytes_of 8 (page_sum p)) (ap (λ x. take 504 p ++ (x ++ drop 8 (drop 504 p))) (f ∙ ap (bytes_of 8) e))

pub sealed_short : (p : List ℕ) → length p < 512 → p ≡ sealed_page p
unfolding sealed_page
sealed_short p h = rw (lt-leb 512 (length p) h) refl

pub blank_unsound : BlankUnsound
unfolding page_sum sum_from number
blank_unsound = refl

-- the sum is of the first 504 bytes alone
sum_from_front : (k h : ℕ) (xs ys : List ℕ) → length xs ≡ 8 * k → sum_from k h (xs ++ ys) ≡ sum_from k h xs
unfolding sum_from
sum_from_front zero h xs ys e = refl
sum_from_front (suc k) h xs ys e =
    rw (take-append-le 8 xs ys (omega arith), drop-append-le 8 xs ys (omega arith)) (sum_from_front k (next_sum h (number (take 8 xs))) (drop 8 xs) ys (omega (arith, length-drop 8 xs)))

pub sum_front : (xs ys : List ℕ) → length xs ≡ 504 → page_sum (xs ++ ys) ≡ page_sum xs
unfolding page_sum
sum_front xs ys e = sum_from_front 63 1 xs ys (omega arith)

sum_from_below : (k h : ℕ) (bs : List ℕ) → h < 2 ^ 64 → sum_from k h bs < 2 ^ 64
unfolding sum_from
sum_from_below zero h bs l = l
sum_from_below (suc k) h bs l = sum_from_below k (next_sum h (number (take 8 bs))) (drop 8 bs) (omega arith)

pub sum_below : (bs : List ℕ) → page_sum bs < 2 ^ 64
unfolding page_sum
sum_below bs = sum_from_below 63 1 bs (omega arith)
