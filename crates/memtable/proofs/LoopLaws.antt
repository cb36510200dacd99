-- Loops, round by round: what is left to do gives what the whole gives.
use Rattle.std.proofs.Common.{◌≡◌, ℕ, zero, suc, ◌+◌, ◌-◌, ◌^◌, ◌<◌, ◌≤◌, Bool, true, false, sym, refl, ◌∙◌, inl, inr, pow-suc, arith}
use Rattle.std.proofs.lemmas.Bool.{lt-ltb, le-ltb, cases_lt, cases_Bool, both_ways}
use Rattle.std.proofs.lemmas.Bool.Decides.{nat_tests}
use Rattle.std.specs.declared.cmp.Ordering.{Ordering}
use Rattle.std.specs.Ordering.{is_ne, nat_cmp}
use Rattle.memtable.specs.Loops.{middle, bisect, compare}

pub compare_apart : (f g : ℕ → ℕ) (n k : ℕ) (tie : Ordering) (a b : ℕ) (r : Ordering) → k < n → a ≡ f k → b ≡ g k → r ≡ nat_cmp a b → true ≡ is_ne r → r ≡ compare f g (n - k) k tie
unfolding compare
compare_apart f g n k tie a b r h p q e t =
    let d : n - k ≡ suc (n - (k + 1)) = omega arith in
    rw (d, ← p, ← q) (grind (arith, nat_tests))

pub compare_same : (f g : ℕ → ℕ) (n k : ℕ) (tie : Ordering) (a b : ℕ) (r : Ordering) → k < n → a ≡ f k → b ≡ g k → r ≡ nat_cmp a b → false ≡ is_ne r →
    compare f g (n - (k + 1)) (k + 1) tie ≡ compare f g (n - k) k tie
unfolding compare
compare_same f g n k tie a b r h p q e t =
    let d : n - k ≡ suc (n - (k + 1)) = omega arith in
    rw (d, ← p, ← q) (grind (arith, nat_tests))

pub compare_end : (f g : ℕ → ℕ) (n k : ℕ) (tie : Ordering) → n ≤ k → compare f g (n - k) k tie ≡ tie
unfolding compare
compare_end f g n k tie h = let d : n - k ≡ zero = omega arith in rw d refl

-- a round more changes nothing where the rounds suffice
bisect_steady : (p : ℕ → Bool) (n low high : ℕ) → high - low < 2 ^ n → bisect p n low high ≡ bisect p (suc n) low high
unfolding bisect
bisect_steady p zero low high h = rw (le-ltb low high (omega arith)) refl
bisect_steady p (suc n) low high h =
    let e = pow-suc 2 n in
    rw (bisect_steady p n (middle low high + 1) high (omega arith), bisect_steady p n low (middle low high) (omega arith)) refl

pub bisect_low : (p : ℕ → Bool) (n low high : ℕ) → high - low < 2 ^ suc n → low < high → true ≡ p (middle low high) →
    bisect p (suc n) (middle low high + 1) high ≡ bisect p (suc n) low high
unfolding bisect
bisect_low p n low high h l e =
    let f = pow-suc 2 n in
    sym (bisect_steady p n (middle low high + 1) high (omega arith)) ∙ rw (lt-ltb low high l, ← e) refl

pub bisect_high : (p : ℕ → Bool) (n low high : ℕ) → high - low < 2 ^ suc n → low < high → false ≡ p (middle low high) →
    bisect p (suc n) low (middle low high) ≡ bisect p (suc n) low high
unfolding bisect
bisect_high p n low high h l e =
    let f = pow-suc 2 n in
    sym (bisect_steady p n low (middle low high) (omega arith)) ∙ rw (lt-ltb low high l, ← e) refl

pub bisect_done : (p : ℕ → Bool) (n low high : ℕ) → high ≤ low → bisect p n low high ≡ low
unfolding bisect
bisect_done p zero low high l = refl
bisect_done p (suc n) low high l = rw (le-ltb low high l) refl

-- where the test holds up to a point and no further, the search ends at that point
pub record Parts (p : ℕ → Bool) (n r : ℕ) : Type 0 where
  pub within : r ≤ n
  pub low : (k : ℕ) → k < r → p k ≡ true
  pub high : (k : ℕ) → r ≤ k → k < n → p k ≡ false

falls : (p : ℕ → Bool) (n : ℕ) → ((i j : ℕ) → i ≤ j → j < n → p j ≡ true → p i ≡ true) → (i j : ℕ) → i ≤ j → j < n → p i ≡ false → p j ≡ false
falls p n mono i j le lt e = elim (cases_Bool (p j)) [ inl t ↦ absurd (both_ways (p i) e (mono i j le lt t)) | inr f ↦ f ]

pub bisect_parts : (p : ℕ → Bool) (n : ℕ) → ((i j : ℕ) → i ≤ j → j < n → p j ≡ true → p i ≡ true) →
    (rounds low high : ℕ) → low ≤ high → high ≤ n → high - low < 2 ^ rounds → ((k : ℕ) → k < low → p k ≡ true) → ((k : ℕ) → high ≤ k → k < n → p k ≡ false) →
    Parts p n (bisect p rounds low high)
unfolding bisect
bisect_parts p n mono zero low high a b c below above = record { within = omega arith; low = below; high = λ k g h. above k (omega arith) h }
bisect_parts p n mono (suc rounds) low high a b c below above =
    let e = pow-suc 2 rounds in
    elim (cases_lt low high) [
      | inr g ↦ rw (le-ltb low high g) (record { within = omega arith; low = below; high = λ k j h. above k (omega arith) h })
      | inl g ↦ rw (lt-ltb low high g) (elim (cases_Bool (p (middle low high))) [
        | inl t ↦ rw t (bisect_parts p n mono rounds (middle low high + 1) high (omega arith) b (omega arith)
            (λ k h. mono k (middle low high) (omega arith) (omega arith) t) above)
        | inr f ↦ rw f (bisect_parts p n mono rounds low (middle low high) (omega arith) (omega arith) (omega arith) below
            (λ k h l. falls p n mono (middle low high) k h l f))
      ])
    ]
