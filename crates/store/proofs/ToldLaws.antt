-- An act that is told in the front of a lent row is told in the row.
use Rattle.std.proofs.Common.{◌≡◌, ℕ, ◌≤◌, List, ◌++◌, length, drop, sym, ap, ◌∙◌, arith, append_assoc, length-append, length-drop}
use Rattle.std.proofs.lemmas.List.{take-append-drop, drop-append-le}
use Rattle.std.specs.Array.{IsFirstChunk}
use Rattle.store.specs.Promise.{Act, read, put, settle, tells, done, refused}
use Rattle.store.specs.Acts.{ActTold}
use Rattle.store.specs.declared.told.Told.{Told}

pub front_same : (n : ℕ) (out o : List ℕ) → IsFirstChunk out o n → o ++ drop n out ≡ out
front_same n out o h = ap (λ x. x ++ drop n out) h.same ∙ take-append-drop n out

module _ (r : Told) (n : ℕ) (out o out₁ : List ℕ) (h : IsFirstChunk out o n) (whole : length out₁ ≡ length o) where
  -- the row is left alone
  same : out₁ ≡ o → out₁ ++ drop n out ≡ out
  same e = ap (λ x. x ++ drop n out) e ∙ front_same n out o h

  -- a row stands over its front
  front : (p : List ℕ) → out₁ ≡ p ++ drop (length p) o → out₁ ++ drop n out ≡ p ++ drop (length p) out
  front p e =
      let within : length p ≤ length o = omega (arith, ap length e, length-append p (drop (length p) o), length-drop (length p) o) in
      rw (e, append_assoc) (ap (λ x. p ++ x) (sym (drop-append-le (length p) o (drop n out) within) ∙ ap (drop (length p)) (front_same n out o h)))

  pub told_in_row : (a : Act) → ActTold a r o out₁ → ActTold a r out (out₁ ++ drop n out)
  unfolding ActTold
  told_in_row (read k) t = (t.0, same t.1)
  told_in_row (put k p) t = (t.0, front p t.1)
  told_in_row settle t = (t.0, same t.1)
  told_in_row (tells p) t = (t.0, front p t.1)
  told_in_row done t = (t.0, same t.1)
  told_in_row (refused k) t = (t.0, same t.1)
