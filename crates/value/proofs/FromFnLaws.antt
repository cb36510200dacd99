-- A row made by a function of the place, and one that is written place by place.
use Rattle.std.proofs.Common.{◌≡◌, ℕ, zero, suc, ◌+◌, ◌<◌, ◌≤◌, List, length, get_or, set, sym, refl, ap, subst, ◌∙◌, arith}
use Rattle.std.proofs.lemmas.Grind.{same_number_lists}
use Rattle.std.proofs.lemmas.List.Edits.{fill_by_more}
use Rattle.std.specs.Fn.{Mut, Called}
use Rattle.std.specs.Array.{IsFromFnResult, IsFromFnResultFrom}

module _ {F : Type 0} (g : Mut F (ℕ × Unit {0}) ℕ) (h : ℕ → ℕ) (f : F) (step : (i y : ℕ) (q : F) → Called g f (i, tt) y q → (y ≡ h i) × (q ≡ f)) where
  made_from : (ys : List ℕ) (i n : ℕ) (p : F) → p ≡ f → IsFromFnResultFrom g p ys i n → (k j : ℕ) → k < n → i + k ≡ j → get_or ys j 0 ≡ h j
  made_from ys i zero p e a k j lt at = absurd (omega arith)
  made_from ys i (suc n) p e a zero j lt at =
      let z : i ≡ j = omega arith in
      subst (λ m. get_or ys m 0 ≡ h m) z (a.2.1 0 ∙ (step i a.1 a.0 (subst (λ r. Called g r (i, tt) a.1 a.0) e a.3)).0)
  made_from ys i (suc n) p e a (suc k) j lt at =
      made_from ys (i + 1) n a.0 (step i a.1 a.0 (subst (λ r. Called g r (i, tt) a.1 a.0) e a.3)).1 a.4 k j (omega arith) (omega arith)

  -- of a list as long, with the function's value at each place, it is one
  pub made_is : (ys zs : List ℕ) (n : ℕ) → IsFromFnResult g f ys n → length zs ≡ n → ((k : ℕ) → k < n → h k ≡ get_or zs k 0) → ys ≡ zs
  made_is ys zs n made l at =
      same_number_lists ys zs (made.long ∙ sym l) (λ k lt. let b : k < n = omega (arith, made.long) in made_from ys 0 n f refl made.each k k b (omega arith) ∙ at k b)

-- a row written place by place, by another row's numbers: one place more, and all of them
pub placed_more : (zs row : List ℕ) (i x : ℕ) → i < length row → x ≡ get_or zs i 0 → ((k : ℕ) → k < i → get_or row k 0 ≡ get_or zs k 0) → (k : ℕ) → k < i + 1 → get_or (set row i x) k 0 ≡ get_or zs k 0
placed_more zs row i x lt is so k h = ap (λ y. get_or (set row i y) k 0) is ∙ fill_by_more (λ j. get_or zs j 0) row i 0 lt so k h

pub placed_all : (zs row : List ℕ) (n i : ℕ) → length row ≡ n → length zs ≡ n → n ≤ i → ((k : ℕ) → k < i → get_or row k 0 ≡ get_or zs k 0) → row ≡ zs
placed_all zs row n i l m h so = same_number_lists row zs (l ∙ sym m) (λ k lt. so k (omega arith))
