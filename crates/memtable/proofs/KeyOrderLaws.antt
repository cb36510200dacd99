-- Keys compared word by word, and by their lengths where all words are the same, stand as keys do.
use Rattle.std.proofs.Common.{◌≡◌, ℕ, zero, suc, ◌+◌, ◌*◌, ◌≤◌, true, List, [], ◌∷◌, length, get_or, sym, refl, ap, ◌∙◌, ap₂, inl, inr, add-one, arith}
use Rattle.std.proofs.lemmas.Bool.Decides.{nat_tests}
use Rattle.std.proofs.lemmas.Bool.{cases_lt}
use Rattle.value.specs.Versions.{pick, same, before}
use Rattle.value.specs.Count.{smaller}
use Rattle.std.specs.declared.cmp.Ordering.{Ordering}
use Rattle.std.specs.declared.cmp.Ordering.TheVariants.{Less, Equal, Greater}
use Rattle.memtable.specs.Words.{bytes, octet, words, packed_word}
use Rattle.memtable.specs.Loops.{compare}
use Rattle.memtable.specs.Arena.{by_length}
use Rattle.memtable.proofs.PackLaws.{octet_is, three, three_less, three_more, three_same, compare_like, words_bytes}

-- where one key stands to another
unfoldable pub ordered : List ℕ → List ℕ → Ordering
ordered xs ys = pick (before xs ys) Less (pick (same xs ys) Equal Greater)

ordered_step : (x y : ℕ) (xs ys : List ℕ) → three x y (ordered xs ys) ≡ ordered (x ∷ xs) (y ∷ ys)
unfolding ordered before same
ordered_step x y xs ys = grind (arith, nat_tests)

shift : (f g : ℕ → ℕ) (n k : ℕ) (tie : Ordering) → compare f g n (k + 1) tie ≡ compare (λ i. f (suc i)) (λ i. g (suc i)) n k tie
unfolding compare
shift f g zero k tie = refl
shift f g (suc n) k tie = let ih = shift f g n (k + 1) tie in
    ap₂ (λ i r. three (f i) (g i) r) (add-one k) ih

all_zero : (n k : ℕ) (tie : Ordering) → compare (λ i. 0) (λ i. 0) n k tie ≡ tie
unfolding compare
all_zero zero k tie = refl
all_zero (suc n) k tie = all_zero n (k + 1) tie

zero_first : (g : ℕ → ℕ) (n k : ℕ) → compare (λ i. 0) g n k Less ≡ Less
unfolding compare
zero_first g zero k = refl
zero_first g (suc n) k = elim (cases_lt 0 (g k)) [ inl h ↦ three_less 0 (g k) _ h | inr h ↦ three_same 0 (g k) _ (omega arith) ∙ zero_first g n (k + 1) ]

zero_last : (f : ℕ → ℕ) (n k : ℕ) → compare f (λ i. 0) n k Greater ≡ Greater
unfolding compare
zero_last f zero k = refl
zero_last f (suc n) k = elim (cases_lt 0 (f k)) [ inl h ↦ three_more (f k) 0 _ h | inr h ↦ three_same (f k) 0 _ (omega arith) ∙ zero_last f n (k + 1) ]

lengths_suc : (a b : ℕ) → by_length (suc a) (suc b) ≡ by_length a b
lengths_suc a b = grind (arith, nat_tests)

smaller_suc : (a b n : ℕ) → smaller (suc a) (suc b) ≤ n → (m : ℕ) × (n ≡ suc m) × (smaller a b ≤ m)
smaller_suc a b zero h = absurd (grind (arith, nat_tests))
smaller_suc a b (suc m) h = (m, refl, grind (arith, nat_tests))

bytes_order : (a b : List ℕ) (n : ℕ) → smaller (length a) (length b) ≤ n →
    compare (λ i. get_or a i 0) (λ i. get_or b i 0) n 0 (by_length (length a) (length b)) ≡ ordered a b
unfolding compare ordered before same
bytes_order [] [] n h = all_zero n 0 Equal
bytes_order [] (y ∷ ys) n h = ap (compare (λ i. 0) (λ i. get_or (y ∷ ys) i 0) n 0) (three_less 0 (suc (length ys)) Equal (omega arith)) ∙ zero_first (λ i. get_or (y ∷ ys) i 0) n 0
bytes_order (x ∷ xs) [] n h = ap (compare (λ i. get_or (x ∷ xs) i 0) (λ i. 0) n 0) (three_more (suc (length xs)) 0 Equal (omega arith)) ∙ zero_last (λ i. get_or (x ∷ xs) i 0) n 0
bytes_order (x ∷ xs) (y ∷ ys) n h =
    let s = smaller_suc (length xs) (length ys) n h in
    let ih = bytes_order xs ys s.0 s.2 in
    ap (λ m. compare (λ i. get_or (x ∷ xs) i 0) (λ i. get_or (y ∷ ys) i 0) m 0 (by_length (suc (length xs)) (suc (length ys)))) s.1
    ∙ ap (three x y) (
    shift (λ i. get_or (x ∷ xs) i 0) (λ i. get_or (y ∷ ys) i 0) s.0 0 (by_length (suc (length xs)) (suc (length ys)))
    ∙ ap (compare (λ i. get_or xs i 0) (λ i. get_or ys i 0) s.0 0) (lengths_suc (length xs) (length ys))
    ∙ ih)
    ∙ ordered_step x y xs ys

pub words_order : (a b : List ℕ) → bytes a ≡ true → bytes b ≡ true →
    compare (packed_word a) (packed_word b) (words (smaller (length a) (length b))) 0 (by_length (length a) (length b)) ≡ ordered a b
words_order a b p q =
    sym (words_bytes a b (words (smaller (length a) (length b))) 0 (by_length (length a) (length b)))
    ∙ compare_like (octet a) (octet b) (λ i. get_or a i 0) (λ i. get_or b i 0) (8 * words (smaller (length a) (length b))) 0 (by_length (length a) (length b))
    (λ i h l. octet_is a i p) (λ i h l. octet_is b i q)
    ∙ bytes_order a b (8 * words (smaller (length a) (length b))) (omega arith)
