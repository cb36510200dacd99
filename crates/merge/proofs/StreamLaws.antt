-- A walk's last key against another.
use Rattle.std.proofs.Common.{◌≡◌, ℕ, Bool, true, eqb, ◌&&◌, List, [], ◌∷◌, refl, ap, ◌∙◌}
use lib.Pointwise.{pointwise}
use Rattle.value.specs.Versions.{same}
use Rattle.merge.specs.Stream.{last_key, has_passed}
use Rattle.merge.specs.declared.stream.Passed.{Passed}

pointwise_same : (xs ys : List ℕ) → pointwise eqb xs ys ≡ same xs ys
unfolding same
pointwise_same [] [] = refl
pointwise_same [] (y ∷ ys) = refl
pointwise_same (x ∷ xs) [] = refl
pointwise_same (x ∷ xs) (y ∷ ys) = ap (λ b. eqb x y && b) (pointwise_same xs ys)

pub passed_by : (p : Passed) (key last : List ℕ) (r : Bool) → p.below ≡ true → last ≡ last_key p → r ≡ pointwise eqb last key → r ≡ has_passed p key
passed_by p key last r b e f = rw (b, ← e) (f ∙ pointwise_same last key)
