-- A row of a fixed length.
use Rattle.std.proofs.Common.{◌≡◌, ℕ, zero, suc, ◌≤◌, List, [], ◌∷◌, ◌++◌, length, take, drop, replicate, min, refl, ap, ◌∙◌, arith}
use Rattle.std.proofs.lemmas.List.{take_all}
use Rattle.value.specs.Numbers.{number, number_at}
use Rattle.value.specs.Padded.{padded}

pub length_padded : (n : ℕ) (xs : List ℕ) → length (padded n xs) ≡ n
unfolding padded
length_padded zero xs = refl
length_padded (suc n) [] = ap suc (length_padded n [])
length_padded (suc n) (x ∷ xs) = ap suc (length_padded n xs)

pub take_padded : (n : ℕ) (xs : List ℕ) → length xs ≤ n → take (length xs) (padded n xs) ≡ xs
unfolding padded
take_padded n [] h = refl
take_padded zero (x ∷ xs) h = absurd (omega arith)
take_padded (suc n) (x ∷ xs) h = ap (λ l. x ∷ l) (take_padded n xs (omega arith))

pub padded_is_take : (n : ℕ) (xs : List ℕ) → n ≤ length xs → padded n xs ≡ take n xs
unfolding padded
padded_is_take zero xs h = refl
padded_is_take (suc n) [] h = absurd (omega arith)
padded_is_take (suc n) (x ∷ xs) h = ap (λ l. x ∷ l) (padded_is_take n xs (omega arith))

-- as many numbers as there are, up to n, over the front of n zeros
filled : (n k : ℕ) (xs : List ℕ) → k ≡ min n (length xs) → take k xs ++ drop k (replicate n 0) ≡ padded n xs
unfolding padded
filled zero zero xs m = refl
filled zero (suc k) xs m = absurd (omega arith)
filled (suc n) zero [] m = ap (λ l. 0 ∷ l) (filled n zero [] (omega arith))
filled (suc n) zero (x ∷ xs) m = absurd (omega arith)
filled (suc n) (suc k) [] m = absurd (omega arith)
filled (suc n) (suc k) (x ∷ xs) m = ap (λ l. x ∷ l) (filled n k xs (omega arith))

pub padded_copied : (n k : ℕ) (xs ys : List ℕ) → k ≡ min n (length xs) → ys ≡ take k xs → ys ++ drop k (replicate n 0) ≡ padded n xs
padded_copied n k xs ys m e = ap (λ l. l ++ drop k (replicate n 0)) e ∙ filled n k xs m

-- zeros behind do not count
number_zeros : (n : ℕ) → number (padded n []) ≡ 0
unfolding padded number
number_zeros zero = refl
number_zeros (suc n) = omega (arith, number_zeros n)

pub number_padded : (n : ℕ) (xs : List ℕ) → number (padded n xs) ≡ number (take n xs)
unfolding padded number
number_padded zero xs = refl
number_padded (suc n) [] = omega (arith, number_zeros n)
number_padded (suc n) (x ∷ xs) = omega (arith, number_padded n xs)

pub number_front : (n at : ℕ) (row from bs : List ℕ) → from ≡ drop at row → bs ≡ padded n from → number (take n bs) ≡ number_at n at row
number_front n at row from bs e f =
    ap (λ l. number (take n l)) f
    ∙ ap number (take_all n (padded n from) (omega (arith, length_padded n from)))
    ∙ number_padded n from
    ∙ ap (λ l. number (take n l)) e

pub padded_front : (n m : ℕ) (xs : List ℕ) → n ≤ m → padded n xs ≡ take n (xs ++ replicate m 0)
unfolding padded
padded_front zero m xs h = refl
padded_front (suc n) zero xs h = absurd (omega arith)
padded_front (suc n) (suc m) [] h = ap (λ l. 0 ∷ l) (padded_front n m [] (omega arith))
padded_front (suc n) (suc m) (x ∷ xs) h = ap (λ l. x ∷ l) (padded_front n (suc m) xs (omega arith))
