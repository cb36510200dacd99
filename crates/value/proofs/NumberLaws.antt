-- Numbers in bytes: what is written reads back, and one part is written behind another.
use Rattle.std.proofs.Common.{◌≡◌, ℕ, zero, suc, ◌+◌, ◌*◌, ◌/◌, ◌%◌, ◌^◌, ◌<◌, ◌≤◌, true, List, [], ◌∷◌, ◌++◌, length, get_or, take, drop, sym, refl, ap, ◌∙◌, pow-suc, arith}
use native.Mathlib.Nat.{div-div-eq-div-mul}
use Rattle.std.proofs.lemmas.List.{append_assoc, length-append, length-take-le, take_at, drop_at, drop-drop}
use Rattle.std.proofs.lemmas.Bool.{lt-ltb, ltb-true}
use Rattle.value.specs.Versions.{every}
use Rattle.value.specs.Numbers.{number, bytes_of, put_at, is_byte, all_bytes, NumberRoundTrips}
use Rattle.value.proofs.TestLaws.{and_left_of, and_right_of}

pub number_bytes_of : (k n : ℕ) → n < 256 ^ k → number (bytes_of k n) ≡ n
unfolding number bytes_of
number_bytes_of zero n h = omega arith
number_bytes_of (suc k) n h = omega (arith, number_bytes_of k (n / 256) (omega arith))

pub bytes_of_number : (bs : List ℕ) → all_bytes bs ≡ true → bytes_of (length bs) (number bs) ≡ bs
unfolding number bytes_of every
bytes_of_number [] u = refl
bytes_of_number (b ∷ bs) u =
    let l = ltb-true b 256 (and_left_of (is_byte b) (all_bytes bs) u) in
    let q : (b + 256 * number bs) / 256 ≡ number bs = omega arith in
    let r : (b + 256 * number bs) % 256 ≡ b = omega arith in
    rw (q, r) (ap (λ l. b ∷ l) (bytes_of_number bs (and_right_of (is_byte b) (all_bytes bs) u)))

pub number_below : (bs : List ℕ) → all_bytes bs ≡ true → number bs < 256 ^ length bs
unfolding number every
number_below [] u = omega arith
number_below (b ∷ bs) u =
    let l = ltb-true b 256 (and_left_of (is_byte b) (all_bytes bs) u) in
    let p : 256 ^ suc (length bs) ≡ 256 ^ length bs * 256 = pow-suc 256 (length bs) in
    omega (arith, number_below bs (and_right_of (is_byte b) (all_bytes bs) u))

pub length_bytes_of : (k n : ℕ) → length (bytes_of k n) ≡ k
unfolding bytes_of
length_bytes_of zero n = refl
length_bytes_of (suc k) n = ap suc (length_bytes_of k (n / 256))

pub all_bytes_of : (k n : ℕ) → all_bytes (bytes_of k n) ≡ true
unfolding bytes_of every
all_bytes_of zero n = refl
all_bytes_of (suc k) n = rw (lt-ltb (n % 256) 256 (omega arith)) (all_bytes_of k (n / 256))

-- each byte of a row is below 256, and a row whose bytes are below 256 is one of bytes
pub byte_there : (bs : List ℕ) (i : ℕ) → all_bytes bs ≡ true → get_or bs i 0 < 256
unfolding every
byte_there [] i u = omega arith
byte_there (b ∷ bs) zero u = ltb-true b 256 (and_left_of (is_byte b) (all_bytes bs) u)
byte_there (b ∷ bs) (suc i) u = byte_there bs i (and_right_of (is_byte b) (all_bytes bs) u)

pub all_bytes_from : (bs : List ℕ) → ((i : ℕ) → get_or bs i 0 < 256) → all_bytes bs ≡ true
unfolding every
all_bytes_from [] h = refl
all_bytes_from (b ∷ bs) h = rw (lt-ltb b 256 (h 0)) (all_bytes_from bs (λ i. h (suc i)))

pub all_bytes_drop : (n : ℕ) (bs : List ℕ) → all_bytes bs ≡ true → all_bytes (drop n bs) ≡ true
unfolding every
all_bytes_drop zero bs u = u
all_bytes_drop (suc n) [] u = refl
all_bytes_drop (suc n) (b ∷ bs) u = all_bytes_drop n bs (and_right_of (is_byte b) (all_bytes bs) u)

pub number_round_trips : NumberRoundTrips
number_round_trips = record { reads = number_bytes_of; writes = bytes_of_number; bytes = all_bytes_of; long = length_bytes_of }

-- a number is its byte at a place, and the rest of it
number_step : (bs : List ℕ) (k i : ℕ) → number (take (suc k) (drop i bs)) ≡ get_or bs i 0 + 256 * number (take k (drop (suc i) bs))
unfolding number
number_step [] zero zero = refl
number_step [] zero (suc i) = refl
number_step [] (suc k) zero = refl
number_step [] (suc k) (suc i) = refl
number_step (b ∷ bs) k zero = refl
number_step (b ∷ bs) k (suc i) = number_step bs k i

number_none : (bs : List ℕ) → number (take 0 bs) ≡ 0
unfolding number
number_none bs = refl

pub number_2 : (bs : List ℕ) → get_or bs 0 0 + get_or bs 1 0 * 256 ≡ number (take 2 bs)
number_2 bs = omega (arith, number_step bs 1 0, number_step bs 0 1, number_none (drop 2 bs))

pub number_4 : (bs : List ℕ) → get_or bs 0 0 + get_or bs 1 0 * 256 + get_or bs 2 0 * 65536 + get_or bs 3 0 * 16777216 ≡ number (take 4 bs)
number_4 bs = omega (arith, number_step bs 3 0, number_step bs 2 1, number_step bs 1 2, number_step bs 0 3, number_none (drop 4 bs))

pub number_8 : (bs : List ℕ) →
    get_or bs 0 0 + get_or bs 1 0 * 256 + get_or bs 2 0 * 65536 + get_or bs 3 0 * 16777216 + get_or bs 4 0 * 4294967296 + get_or bs 5 0 * 1099511627776 + get_or bs 6 0 * 281474976710656 + get_or bs 7 0 * 72057594037927936 ≡ number (take 8 bs)
number_8 bs =
    omega (
      arith,
      number_step bs 7 0,
      number_step bs 6 1,
      number_step bs 5 2,
      number_step bs 4 3,
      number_step bs 3 4,
      number_step bs 2 5,
      number_step bs 1 6,
      number_step bs 0 7,
      number_none (drop 8 bs),
    )

-- the bytes as the library writes them
pub bytes_8 : (n : ℕ) → n % 256 ∷ n / 256 % 256 ∷ n / 65536 % 256 ∷ n / 16777216 % 256 ∷ n / 4294967296 % 256 ∷ n / 1099511627776 % 256 ∷ n / 281474976710656 % 256 ∷ n / 72057594037927936 % 256 ∷ [] ≡ bytes_of 8 n
unfolding bytes_of
bytes_8 n = simp div-div-eq-div-mul

-- one part written behind another is both written at once
pub put_more : (at n : ℕ) (xs ys row : List ℕ) → n ≡ at + length xs → at ≤ length row → put_at n ys (put_at at xs row) ≡ put_at at (xs ++ ys) row
put_more at n xs ys row e h =
    let front : List ℕ = take at row ++ xs in
    let back : List ℕ = drop (length xs) (drop at row) in
    let c : put_at at xs row ≡ front ++ back = sym (append_assoc (take at row) xs back) in
    let long : length front ≡ n = omega (arith, length-append (take at row) xs, length-take-le at row h) in
    let t : take n (put_at at xs row) ≡ front = ap (take n) c ∙ take_at front back n long in
    let d : drop n (put_at at xs row) ≡ back = ap (drop n) c ∙ drop_at front back n long in
    (λ i. t i ++ (ys ++ drop (length ys) (d i)))
    ∙ append_assoc (take at row) xs _
    ∙ ap (λ l. take at row ++ l) (sym (append_assoc xs ys _))
    ∙ ap (λ l. take at row ++ ((xs ++ ys) ++ l)) (drop-drop (length ys) (length xs) (drop at row) ∙ ap (λ k. drop k (drop at row)) (sym (length-append xs ys)))
