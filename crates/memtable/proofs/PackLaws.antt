-- Packed bytes: they come out again, and words compare as the bytes in them do.
use Rattle.std.proofs.Common.{◌≡◌, ℕ, zero, suc, ◌+◌, ◌*◌, ◌/◌, ◌%◌, ◌<◌, ◌≤◌, true, ltb, List, [], ◌∷◌, length, get_or, sym, refl, ap, ◌∙◌, ap₂, inl, inr, mul-le-mul_right, add-mul, arith}
use Rattle.std.proofs.lemmas.Bool.{ltb-true, lt-ltb, le-ltb, cases_order}
use Rattle.std.proofs.lemmas.List.{ext_get_or}
use Rattle.value.specs.Versions.{pick, every}
use Rattle.std.specs.declared.cmp.Ordering.{Ordering}
use Rattle.std.specs.declared.cmp.Ordering.TheVariants.{Less, Greater}
use Rattle.value.proofs.TestLaws.{and_left_of, and_right_of}
use Rattle.memtable.specs.Words.{bytes, octet, word, words, packed_word, byte, byte_behind, row}
use Rattle.memtable.specs.Loops.{compare}
use Rattle.memtable.proofs.WordLaws.{length_row, get_or_row}

-- byte k of eight packed into a word
byte_word : (a b c d e f g h k : ℕ) → a < 256 → b < 256 → c < 256 → d < 256 → e < 256 → f < 256 → g < 256 → h < 256 → k < 8 →
    byte (a * 72057594037927936 + b * 281474976710656 + c * 1099511627776 + d * 4294967296 + e * 16777216 + f * 65536 + g * 256 + h) k ≡
    get_or (a ∷ b ∷ c ∷ d ∷ e ∷ f ∷ g ∷ h ∷ []) k 0
byte_word a b c d e f g h zero p q r s t u v w z = omega arith
byte_word a b c d e f g h (suc zero) p q r s t u v w z = omega arith
byte_word a b c d e f g h (suc (suc zero)) p q r s t u v w z = omega arith
byte_word a b c d e f g h (suc (suc (suc zero))) p q r s t u v w z = omega arith
byte_word a b c d e f g h (suc (suc (suc (suc zero)))) p q r s t u v w z = omega arith
byte_word a b c d e f g h (suc (suc (suc (suc (suc zero))))) p q r s t u v w z = omega arith
byte_word a b c d e f g h (suc (suc (suc (suc (suc (suc zero)))))) p q r s t u v w z = omega arith
byte_word a b c d e f g h (suc (suc (suc (suc (suc (suc (suc zero))))))) p q r s t u v w z = omega arith
byte_word a b c d e f g h (suc (suc (suc (suc (suc (suc (suc (suc k)))))))) p q r s t u v w z = absurd (omega arith)

eight : (bs : List ℕ) (k j : ℕ) → j < 8 →
    get_or (octet bs k ∷ octet bs (k + 1) ∷ octet bs (k + 2) ∷ octet bs (k + 3) ∷ octet bs (k + 4) ∷ octet bs (k + 5) ∷ octet bs (k + 6) ∷ octet bs (k + 7) ∷ []) j 0 ≡
    octet bs (k + j)
eight bs k zero h = let e : k + 0 ≡ k = omega arith in rw e refl
eight bs k (suc zero) h = refl
eight bs k (suc (suc zero)) h = refl
eight bs k (suc (suc (suc zero))) h = refl
eight bs k (suc (suc (suc (suc zero)))) h = refl
eight bs k (suc (suc (suc (suc (suc zero))))) h = refl
eight bs k (suc (suc (suc (suc (suc (suc zero)))))) h = refl
eight bs k (suc (suc (suc (suc (suc (suc (suc zero))))))) h = refl
eight bs k (suc (suc (suc (suc (suc (suc (suc (suc j)))))))) h = absurd (omega arith)

octet_below : (bs : List ℕ) (i : ℕ) → octet bs i < 256
octet_below bs i = omega arith

byte_of_word : (bs : List ℕ) (k j : ℕ) → j < 8 → byte (word bs k) j ≡ octet bs (k + j)
byte_of_word bs k j h =
    byte_word _ _ _ _ _ _ _ _ j (octet_below bs k) (octet_below bs (k + 1)) (octet_below bs (k + 2)) (octet_below bs (k + 3)) (octet_below bs (k + 4))
    (octet_below bs (k + 5)) (octet_below bs (k + 6)) (octet_below bs (k + 7)) h
    ∙ eight bs k j h

pub octet_is : (bs : List ℕ) (i : ℕ) → bytes bs ≡ true → octet bs i ≡ get_or bs i 0
unfolding every
octet_is [] i h = refl
octet_is (b ∷ bs) zero h = let l = ltb-true b 256 (and_left_of (ltb b 256) (bytes bs) h) in omega arith
octet_is (b ∷ bs) (suc i) h = octet_is bs i (and_right_of (ltb b 256) (bytes bs) h)

-- what is packed comes out again
pub row_packed : (ws bs : List ℕ) (p s n : ℕ) → bytes bs ≡ true → length bs ≡ n → ((k : ℕ) → k < words n → get_or ws (p + (s + k)) 0 ≡ packed_word bs k) →
    row ws p s n ≡ bs
unfolding byte_behind packed_word
row_packed ws bs p s n h l f =
    ext_get_or 0 (row ws p s n) bs (length_row ws p s n ∙ sym l) (λ i m.
    let q : i < n = omega (arith, length_row ws p s n) in
    let e : 8 * (i / 8) + i % 8 ≡ i = omega arith in
    get_or_row ws p s n i q
    ∙ ap (λ w. byte w (i % 8)) (f (i / 8) (omega arith))
    ∙ byte_of_word bs (8 * (i / 8)) (i % 8) (omega arith)
    ∙ ap (octet bs) e
    ∙ octet_is bs i h)

-- TWO WORDS compare as their bytes do
abbrev pub three : ℕ → ℕ → Ordering → Ordering
three a b r = pick (ltb a b) Less (pick (ltb b a) Greater r)

pub three_less : (a b : ℕ) (r : Ordering) → a < b → three a b r ≡ Less
three_less a b r h = rw (lt-ltb a b h) refl

pub three_more : (a b : ℕ) (r : Ordering) → b < a → three a b r ≡ Greater
three_more a b r h = rw (le-ltb a b (omega arith), lt-ltb b a h) refl

pub three_same : (a b : ℕ) (r : Ordering) → a ≡ b → three a b r ≡ r
three_same a b r h = rw (le-ltb a b (omega arith), le-ltb b a (omega arith)) refl

digit_less : (x y p a b : ℕ) → x < y → a < p → x * p + a < y * p + b
digit_less x y p a b h l = omega (arith, mul-le-mul_right p h, add-mul x 1 p)

digit : (x y p a b : ℕ) (r : Ordering) → a < p → b < p → three x y (three a b r) ≡ three (x * p + a) (y * p + b) r
digit x y p a b r h l = elim (cases_order x y) [
  | inl e ↦ three_same x y (three a b r) e ∙ elim (cases_order a b) [
    | inl f ↦ three_same a b r f ∙ sym (three_same (x * p + a) (y * p + b) r (ap₂ (λ u v. u * p + v) e f))
    | inr o ↦ elim o [
      | inl f ↦ three_less a b r f ∙ sym (three_less (x * p + a) (y * p + b) r (omega (arith, ap (λ u. u * p) e)))
      | inr f ↦ three_more a b r f ∙ sym (three_more (x * p + a) (y * p + b) r (omega (arith, ap (λ u. u * p) e)))
    ]
  ]
  | inr o ↦ elim o [
    | inl f ↦ three_less x y (three a b r) f ∙ sym (three_less (x * p + a) (y * p + b) r (digit_less x y p a b f h))
    | inr f ↦ three_more x y (three a b r) f ∙ sym (three_more (x * p + a) (y * p + b) r (digit_less y x p b a f l))
  ]
]

two_words : (a b c d e f g h a₁ b₁ c₁ d₁ e₁ f₁ g₁ h₁ : ℕ) (r : Ordering) →
    b < 256 → c < 256 → d < 256 → e < 256 → f < 256 → g < 256 → h < 256 → b₁ < 256 → c₁ < 256 → d₁ < 256 → e₁ < 256 → f₁ < 256 → g₁ < 256 → h₁ < 256 →
    three a a₁ (three b b₁ (three c c₁ (three d d₁ (three e e₁ (three f f₁ (three g g₁ (three h h₁ r))))))) ≡
    three (a * 72057594037927936 + b * 281474976710656 + c * 1099511627776 + d * 4294967296 + e * 16777216 + f * 65536 + g * 256 + h)
    (a₁ * 72057594037927936 + b₁ * 281474976710656 + c₁ * 1099511627776 + d₁ * 4294967296 + e₁ * 16777216 + f₁ * 65536 + g₁ * 256 + h₁) r
two_words a b c d e f g h a₁ b₁ c₁ d₁ e₁ f₁ g₁ h₁ r p₁ p₂ p₃ p₄ p₅ p₆ p₇ q₁ q₂ q₃ q₄ q₅ q₆ q₇ =
    let g₂ : ℕ = g * 256 + h in let g₃ : ℕ = g₁ * 256 + h₁ in
    let f₂ : ℕ = f * 65536 + g₂ in let f₃ : ℕ = f₁ * 65536 + g₃ in
    let e₂ : ℕ = e * 16777216 + f₂ in let e₃ : ℕ = e₁ * 16777216 + f₃ in
    let d₂ : ℕ = d * 4294967296 + e₂ in let d₃ : ℕ = d₁ * 4294967296 + e₃ in
    let c₂ : ℕ = c * 1099511627776 + d₂ in let c₃ : ℕ = c₁ * 1099511627776 + d₃ in
    let b₂ : ℕ = b * 281474976710656 + c₂ in let b₃ : ℕ = b₁ * 281474976710656 + c₃ in
    let one : a * 72057594037927936 + b₂ ≡ a * 72057594037927936 + b * 281474976710656 + c * 1099511627776 + d * 4294967296 + e * 16777216 + f * 65536 + g * 256 + h = omega arith in
    let two : a₁ * 72057594037927936 + b₃ ≡ a₁ * 72057594037927936 + b₁ * 281474976710656 + c₁ * 1099511627776 + d₁ * 4294967296 + e₁ * 16777216 + f₁ * 65536 + g₁ * 256 + h₁ = omega arith in
    ap (λ z. three a a₁ (three b b₁ (three c c₁ (three d d₁ (three e e₁ (three f f₁ z)))))) (digit g g₁ 256 h h₁ r p₇ q₇)
    ∙ ap (λ z. three a a₁ (three b b₁ (three c c₁ (three d d₁ (three e e₁ z))))) (digit f f₁ 65536 g₂ g₃ r (omega arith) (omega arith))
    ∙ ap (λ z. three a a₁ (three b b₁ (three c c₁ (three d d₁ z)))) (digit e e₁ 16777216 f₂ f₃ r (omega arith) (omega arith))
    ∙ ap (λ z. three a a₁ (three b b₁ (three c c₁ z))) (digit d d₁ 4294967296 e₂ e₃ r (omega arith) (omega arith))
    ∙ ap (λ z. three a a₁ (three b b₁ z)) (digit c c₁ 1099511627776 d₂ d₃ r (omega arith) (omega arith))
    ∙ ap (λ z. three a a₁ z) (digit b b₁ 281474976710656 c₂ c₃ r (omega arith) (omega arith))
    ∙ digit a a₁ 72057594037927936 b₂ b₃ r (omega arith) (omega arith)
    ∙ ap₂ (λ u v. three u v r) one two

-- what two rows have the same is compared the same
pub compare_like : (f g f₁ g₁ : ℕ → ℕ) (n k : ℕ) (tie : Ordering) → ((i : ℕ) → k ≤ i → i < k + n → f i ≡ f₁ i) → ((i : ℕ) → k ≤ i → i < k + n → g i ≡ g₁ i) →
    compare f g n k tie ≡ compare f₁ g₁ n k tie
unfolding compare
compare_like f g f₁ g₁ zero k tie p q = refl
compare_like f g f₁ g₁ (suc n) k tie p q =
    let ih = compare_like f g f₁ g₁ n (k + 1) tie (λ i h l. p i (omega arith) (omega arith)) (λ i h l. q i (omega arith) (omega arith)) in
    let a = p k (omega arith) (omega arith) in
    let b = q k (omega arith) (omega arith) in
    ap₂ (λ u v. three u v (compare f g n (k + 1) tie)) a b ∙ ap (three (f₁ k) (g₁ k)) ih

-- n words from k on are 8 n bytes from 8 k on
pub words_bytes : (a b : List ℕ) (n k : ℕ) (tie : Ordering) → compare (octet a) (octet b) (8 * n) (8 * k) tie ≡ compare (packed_word a) (packed_word b) n k tie
unfolding compare packed_word
words_bytes a b zero k tie = refl
words_bytes a b (suc n) k tie =
    let ih = words_bytes a b n (k + 1) tie in
    let m : 8 * suc n ≡ suc (suc (suc (suc (suc (suc (suc (suc (8 * n)))))))) = omega arith in
    let i₂ : 8 * k + 1 + 1 ≡ 8 * k + 2 = omega arith in
    let i₃ : 8 * k + 2 + 1 ≡ 8 * k + 3 = omega arith in
    let i₄ : 8 * k + 3 + 1 ≡ 8 * k + 4 = omega arith in
    let i₅ : 8 * k + 4 + 1 ≡ 8 * k + 5 = omega arith in
    let i₆ : 8 * k + 5 + 1 ≡ 8 * k + 6 = omega arith in
    let i₇ : 8 * k + 6 + 1 ≡ 8 * k + 7 = omega arith in
    let i₈ : 8 * k + 7 + 1 ≡ 8 * (k + 1) = omega arith in
    rw m (simp (i₂, i₃, i₄, i₅, i₆, i₇, i₈) (
    two_words _ _ _ _ _ _ _ _ _ _ _ _ _ _ _ _ (compare (octet a) (octet b) (8 * n) (8 * (k + 1)) tie)
    (octet_below a (8 * k + 1)) (octet_below a (8 * k + 2)) (octet_below a (8 * k + 3)) (octet_below a (8 * k + 4)) (octet_below a (8 * k + 5)) (octet_below a (8 * k + 6)) (octet_below a (8 * k + 7))
    (octet_below b (8 * k + 1)) (octet_below b (8 * k + 2)) (octet_below b (8 * k + 3)) (octet_below b (8 * k + 4)) (octet_below b (8 * k + 5)) (octet_below b (8 * k + 6)) (octet_below b (8 * k + 7))
    ∙ ap (three (word a (8 * k)) (word b (8 * k))) ih))
