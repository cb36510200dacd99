-- Halves: they lie behind the lists, within the pages, and share no page; and writes to one go to no page elsewhere.
use Rattle.std.proofs.Common.{◌≡◌, ℕ, ◌<◌, ◌≤◌, true, ltb, leb, ◌⊎◌, List, [], ◌∷◌, refl, inl, inr, arith, ltb-true, leb-true}
use Rattle.value.specs.Versions.{every}
use Rattle.value.proofs.TestLaws.{and_left_of, and_right_of}
use Rattle.table.specs.Device.{Write, elsewhere}
use Rattle.table.proofs.DeviceLaws.{elsewhere_more}
use Rattle.manifest.specs.declared.fields.Half.{Half}
use Rattle.manifest.specs.declared.fields.Half.TheVariants.{First, Second}
use Rattle.manifest.specs.Places.{half_start, half_end, other, InHalf, lies_in, in_half, HalvesApart}

behind : (n : ℕ) (h : Half) → 3 ≤ half_start n h
behind n First = omega arith
behind n Second = omega arith

within : (n : ℕ) (h : Half) → 64 ≤ n → n ≤ 1048576 → half_end n h ≤ n
within n First a b = omega arith
within n Second a b = omega arith

apart : (n : ℕ) (h : Half) (k : ℕ) → InHalf n h k → InHalf n (other h) k → ⊥
apart n First k a b = omega arith
apart n Second k a b = omega arith

pub halves_apart : HalvesApart
halves_apart = record { behind = behind; within = within; large = λ n a b. omega arith; apart = apart }

lies_where : (n : ℕ) (h : Half) (w : Write) → lies_in n h w ≡ true → InHalf n h w.at
lies_where n h w e = record {
  from = leb-true _ _ (and_left_of (leb (half_start n h) w.at) (ltb w.at (half_end n h)) e);
  below = ltb-true _ _ (and_right_of (leb (half_start n h) w.at) (ltb w.at (half_end n h)) e);
}

-- a page that is not in a half is not written by writes to it
outside : (n : ℕ) (h : Half) (qs : List Write) (k : ℕ) → in_half n h qs ≡ true → (InHalf n h k → ⊥) → elsewhere k qs ≡ true
unfolding in_half every elsewhere
outside n h [] k e f = refl
outside n h (w ∷ ws) k e f =
    elsewhere_more k w ws (λ s. f (rw s at (lies_where n h w (and_left_of (lies_in n h w) (every (lies_in n h) ws) e))))
    (outside n h ws k (and_right_of (lies_in n h w) (every (lies_in n h) ws) e) f)

pub free_elsewhere : (n : ℕ) (h : Half) (qs : List Write) (k : ℕ) → in_half n (other h) qs ≡ true → (k < 3) ⊎ InHalf n h k → elsewhere k qs ≡ true
free_elsewhere n h qs k e (inl l) = outside n (other h) qs k e (λ i. omega (arith, behind n (other h), i.from))
free_elsewhere n h qs k e (inr i) = outside n (other h) qs k e (λ j. apart n h k i j)

pub lists_elsewhere : (n : ℕ) (h : Half) (qs : List Write) (k : ℕ) → in_half n h qs ≡ true → k < 3 → elsewhere k qs ≡ true
lists_elsewhere n h qs k e l = outside n h qs k e (λ i. omega (arith, behind n h, i.from))
