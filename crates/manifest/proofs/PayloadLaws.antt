-- A list is read from its page's payload as from the page: the sum behind it says nothing of tables.
use Rattle.std.proofs.Common.{◌≡◌, ℕ, zero, suc, ◌+◌, ◌*◌, ◌%◌, ◌<◌, List, [], ◌∷◌, get_or, take, drop, sym, refl, ap, ◌∙◌, arith}
use Rattle.std.proofs.lemmas.List.{get_or-drop}
use Rattle.value.specs.Numbers.{number}
use Rattle.table.specs.Stream.{payload}
use Rattle.table.proofs.FillLaws.{payload_byte}
use Rattle.manifest.specs.Manifest.{word_at, manifest_in}
use Rattle.manifest.specs.Commit.{found_in}

-- a number in a row of bytes, from the lowest on; past the end bytes are 0
number_first : (k : ℕ) (xs : List ℕ) → number (take (suc k) xs) ≡ get_or xs 0 0 + 256 * number (take k (drop 1 xs))
unfolding number
number_first zero [] = refl
number_first (suc k) [] = refl
number_first k (x ∷ xs) = refl

numbers_agree : (k : ℕ) (xs ys : List ℕ) → ((i : ℕ) → i < k → get_or xs i 0 ≡ get_or ys i 0) → number (take k xs) ≡ number (take k ys)
unfolding number
numbers_agree zero xs ys h = refl
numbers_agree (suc k) xs ys h =
    let one : (zs : List ℕ) (i : ℕ) → get_or (drop 1 zs) i 0 ≡ get_or zs (suc i) 0 = λ zs i. let e : 1 + i ≡ suc i = omega arith in get_or-drop 1 zs i 0 ∙ ap (λ j. get_or zs j 0) e in
    let rest = numbers_agree k (drop 1 xs) (drop 1 ys) (λ i l. one xs i ∙ h (suc i) (omega arith) ∙ sym (one ys i)) in
    number_first k xs ∙ (λ j. h 0 (omega arith) j + 256 * rest j) ∙ sym (number_first k ys)

word_payload : (i : ℕ) (p : List ℕ) → i < 63 → word_at i (payload p) ≡ word_at i p
unfolding word_at
word_payload i p h =
    ap (λ n. n % 18446744073709551616)
    (numbers_agree 8 (drop (8 * i) (payload p)) (drop (8 * i) p)
    (λ j l. get_or-drop (8 * i) (payload p) j 0 ∙ payload_byte p (8 * i + j) (omega arith) ∙ sym (get_or-drop (8 * i) p j 0)))

pub found_payload : (p : List ℕ) → found_in (payload p) ≡ found_in p
unfolding manifest_in
found_payload p =
    let w : (i : ℕ) → i < 63 → word_at i (payload p) ≡ word_at i p = λ i h. word_payload i p h in
    rw (w 0 (omega arith), w 2 (omega arith), w 3 (omega arith), w 4 (omega arith), w 5 (omega arith), w 6 (omega arith), w 7 (omega arith), w 8 (omega arith), w 9 (omega arith), w 10 (omega arith), w 11 (omega arith), w 12 (omega arith), w 13 (omega arith), w 62 (omega arith)) refl
