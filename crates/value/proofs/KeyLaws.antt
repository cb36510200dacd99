-- The order of keys: same decides equality, before is a strict total order.
use Rattle.std.proofs.Common.{◌≡◌, ℕ, ◌<◌, Bool, true, false, ◌&&◌, eqb, ltb, ◌⊎◌, List, [], ◌∷◌, sym, refl, ◌∙◌, ap₂, inl, inr, arith, ltb-true, le-ltb, lt-ltb, eq-eqb, ne_eqb, eqb-true, bytes_eq, ap, ◌==◌}
use Rattle.value.specs.Versions.{or, same, before}
use Rattle.value.proofs.TestLaws.{clash, and_left_of, and_right_of}
use Rattle.std.proofs.lemmas.Bool.{cases_order}

pub same_refl : (xs : List ℕ) → same xs xs ≡ true
unfolding same
same_refl [] = refl
same_refl (x ∷ xs) = rw (eq-eqb x x refl) (same_refl xs)

pub same_eq : (xs ys : List ℕ) → same xs ys ≡ true → xs ≡ ys
unfolding same
same_eq [] [] e = refl
same_eq [] (y ∷ ys) e = clash true refl (sym e)
same_eq (x ∷ xs) [] e = clash true refl (sym e)
same_eq (x ∷ xs) (y ∷ ys) e =
    ap₂ ◌∷◌ (eqb-true x y (and_left_of (eqb x y) (same xs ys) e)) (same_eq xs ys (and_right_of (eqb x y) (same xs ys) e))

pub same_sym : (xs ys : List ℕ) → same xs ys ≡ same ys xs
same_sym xs ys = go (same xs ys) (same ys xs) refl refl
  where
    go : (a b : Bool) → same xs ys ≡ a → same ys xs ≡ b → a ≡ b
    go true true p q = refl
    go false false p q = refl
    go true false p q = clash (same xs xs) (same_refl xs) (rw (← same_eq xs ys p) at q)
    go false true p q = clash (same xs xs) (same_refl xs) (rw (same_eq ys xs q) at p)

pub same_from : (xs ys : List ℕ) → xs ≡ ys → same xs ys ≡ true
same_from xs ys e = rw e (same_refl ys)

before_parts : (x y : ℕ) (xs ys : List ℕ) → before (x ∷ xs) (y ∷ ys) ≡ true → (x < y) ⊎ ((x ≡ y) × (before xs ys ≡ true))
unfolding before
before_parts x y xs ys e = go (ltb x y) (eqb x y) refl refl e
  where
    go : (a b : Bool) → ltb x y ≡ a → eqb x y ≡ b → or a (b && before xs ys) ≡ true → (x < y) ⊎ ((x ≡ y) × (before xs ys ≡ true))
    go true b p q e = inl (ltb-true x y p)
    go false true p q e = inr (eqb-true x y q, e)
    go false false p q e = clash true refl (sym e)

pub before_less : (x y : ℕ) (xs ys : List ℕ) → x < y → before (x ∷ xs) (y ∷ ys) ≡ true
unfolding before
before_less x y xs ys h = rw (lt-ltb x y h) refl

pub before_tail : (x y : ℕ) (xs ys : List ℕ) → x ≡ y → before (x ∷ xs) (y ∷ ys) ≡ before xs ys
unfolding before
before_tail x y xs ys h = rw (le-ltb x y (omega arith), eq-eqb x y h) refl

pub before_more : (x y : ℕ) (xs ys : List ℕ) → y < x → before (x ∷ xs) (y ∷ ys) ≡ false
unfolding before
before_more x y xs ys h = rw (le-ltb x y (omega arith), ne_eqb x y (omega arith)) refl

pub before_irrefl : (xs : List ℕ) → before xs xs ≡ false
unfolding before
before_irrefl [] = refl
before_irrefl (x ∷ xs) = before_tail x x xs xs refl ∙ before_irrefl xs

pub before_trans : (xs ys zs : List ℕ) → before xs ys ≡ true → before ys zs ≡ true → before xs zs ≡ true
unfolding before
before_trans [] [] zs p q = q
before_trans [] (y ∷ ys) [] p q = q
before_trans [] (y ∷ ys) (z ∷ zs) p q = refl
before_trans (x ∷ xs) [] zs p q = clash true refl (sym p)
before_trans (x ∷ xs) (y ∷ ys) [] p q = q
before_trans (x ∷ xs) (y ∷ ys) (z ∷ zs) p q = go (before_parts x y xs ys p) (before_parts y z ys zs q) (before_trans xs ys zs)
  where
    go : (x < y) ⊎ ((x ≡ y) × (before xs ys ≡ true)) → (y < z) ⊎ ((y ≡ z) × (before ys zs ≡ true)) →
        (before xs ys ≡ true → before ys zs ≡ true → before xs zs ≡ true) → before (x ∷ xs) (z ∷ zs) ≡ true
    go (inl h) (inl k) ih = before_less x z xs zs (omega arith)
    go (inl h) (inr k) ih = before_less x z xs zs (omega arith)
    go (inr h) (inl k) ih = before_less x z xs zs (omega arith)
    go (inr h) (inr k) ih = before_tail x z xs zs (omega arith) ∙ ih h.1 k.1

-- two keys: before, the same, or behind, each with what every test says
pub data Order (a b : List ℕ) : Type 0 where
  before_it : before a b ≡ true → before b a ≡ false → same a b ≡ false → Order a b
  same_as : a ≡ b → before a b ≡ false → before b a ≡ false → same a b ≡ true → Order a b
  behind_it : before a b ≡ false → before b a ≡ true → same a b ≡ false → Order a b

pub same_tail : (x y : ℕ) (xs ys : List ℕ) → x ≡ y → same (x ∷ xs) (y ∷ ys) ≡ same xs ys
unfolding same
same_tail x y xs ys h = rw (eq-eqb x y h) refl

pub same_apart : (x y : ℕ) (xs ys : List ℕ) → ¬ (x ≡ y) → same (x ∷ xs) (y ∷ ys) ≡ false
unfolding same
same_apart x y xs ys h = rw (ne_eqb x y h) refl

all_same : (a b : List ℕ) → a ≡ b → Order a b
all_same a b e = same_as e (rw e (before_irrefl b)) (rw e (before_irrefl b)) (same_from a b e)

pub order : (a b : List ℕ) → Order a b
unfolding before same
order [] [] = same_as refl refl refl refl
order [] (y ∷ ys) = before_it refl refl refl
order (x ∷ xs) [] = behind_it refl refl refl
order (x ∷ xs) (y ∷ ys) = go (cases_order x y) (order xs ys)
  where
    go : (x ≡ y) ⊎ ((x < y) ⊎ (y < x)) → Order xs ys → Order (x ∷ xs) (y ∷ ys)
    go (inl e) (before_it p q r) = before_it (before_tail x y xs ys e ∙ p) (before_tail y x ys xs (sym e) ∙ q) (same_tail x y xs ys e ∙ r)
    go (inl e) (same_as p _ _ _) = all_same (x ∷ xs) (y ∷ ys) (ap₂ ◌∷◌ e p)
    go (inl e) (behind_it p q r) = behind_it (before_tail x y xs ys e ∙ p) (before_tail y x ys xs (sym e) ∙ q) (same_tail x y xs ys e ∙ r)
    go (inr (inl h)) o = before_it (before_less x y xs ys h) (before_more y x ys xs h) (same_apart x y xs ys (omega arith))
    go (inr (inr h)) o = behind_it (before_more x y xs ys h) (before_less y x ys xs h) (same_apart x y xs ys (omega arith))

-- what's not before stands for "at most", the other way round
pub before_not : (a b : List ℕ) → before a b ≡ true → before b a ≡ false
before_not a b e = go (order a b)
  where
    go : Order a b → before b a ≡ false
    go (before_it p q r) = q
    go (same_as p x y z) = y
    go (behind_it p q r) = clash (before a b) e p

pub before_apart : (a b : List ℕ) → before a b ≡ true → same a b ≡ false
before_apart a b e = go (order a b)
  where
    go : Order a b → same a b ≡ false
    go (before_it p q r) = r
    go (same_as p x y z) = clash (before a b) e x
    go (behind_it p q r) = r

pub before_apart' : (a b : List ℕ) → before a b ≡ true → same b a ≡ false
before_apart' a b e = same_sym b a ∙ before_apart a b e

-- a < b, b ≤ c: a < c
pub lt_le : (a b c : List ℕ) → before a b ≡ true → before c b ≡ false → before a c ≡ true
lt_le a b c p q = go (order b c)
  where
    go : Order b c → before a c ≡ true
    go (before_it x y z) = before_trans a b c p x
    go (same_as e _ _ _) = rw (← e) p
    go (behind_it x y z) = clash (before c b) y q

-- a ≤ b, b < c: a < c
pub le_lt : (a b c : List ℕ) → before b a ≡ false → before b c ≡ true → before a c ≡ true
le_lt a b c p q = go (order a b)
  where
    go : Order a b → before a c ≡ true
    go (before_it x y z) = before_trans a b c x q
    go (same_as e _ _ _) = rw e q
    go (behind_it x y z) = clash (before b a) y p

-- a ≤ b, b ≤ c: a ≤ c
pub le_le : (a b c : List ℕ) → before b a ≡ false → before c b ≡ false → before c a ≡ false
le_le a b c p q = go (before c a) refl
  where
    go : (t : Bool) → before c a ≡ t → t ≡ false
    go false e = refl
    go true e = clash (before c b) (lt_le c a b e p) q

-- the library's test of two rows of bytes
same_bytes : (xs ys : List ℕ) → bytes_eq xs ys ≡ same xs ys
unfolding same
same_bytes [] [] = refl
same_bytes [] (y ∷ ys) = refl
same_bytes (x ∷ xs) [] = refl
same_bytes (x ∷ xs) (y ∷ ys) = ap (λ b. x == y && b) (same_bytes xs ys)

pub same_told : (xs ks ys : List ℕ) (b : Bool) → xs ≡ ks → b ≡ bytes_eq xs ys → same ks ys ≡ b
same_told xs ks ys b e f = sym (f ∙ same_bytes xs ys ∙ ap (λ l. same l ys) e)
