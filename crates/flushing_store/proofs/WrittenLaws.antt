-- Was a key written at a moment? What the latest version up to that moment says of it, in a list that rises.
use Rattle.std.proofs.Common.{◌≡◌, ℕ, suc, ◌+◌, ◌<◌, Bool, true, false, ◌&&◌, eqb, ltb, leb, List, [], ◌∷◌, ◌++◌, sym, refl, ap, ◌∙◌, subst, arith, ltb-false, ltb-true, lt-ltb, ne_eqb, eqb-true, leb-true}
use Rattle.value.specs.Versions.{pick, or, every, any, none_of, same, Version, latest, weight, added_up}
use Rattle.value.specs.Rising.{rising, last_moment}
use Rattle.value.proofs.TestLaws.{and_left_of, and_right_of}
use Rattle.store.proofs.RisingLaws.{written_at}
use Rattle.flushing_store.proofs.GotLaws.{latest_has}
use Rattle.value.proofs.KeptLaws.{not_later}

pub any_split : (f : Version → Bool) (xs ys : List Version) → any f (xs ++ ys) ≡ or (any f xs) (any f ys)
unfolding any
any_split f [] ys = refl
any_split f (x ∷ xs) ys = rw (any_split f xs ys) (go (f x))
  where
    go : (b : Bool) → or b (or (any f xs) (any f ys)) ≡ or (or b (any f xs)) (any f ys)
    go true = refl
    go false = refl

pub weight_append : (xs ys : List Version) → weight (xs ++ ys) ≡ weight xs + weight ys
unfolding added_up
weight_append [] ys = omega arith
weight_append (x ∷ xs) ys = let ih = weight_append xs ys in omega arith

-- none has a moment above the last
pub none_above : (vs : List Version) (k : List ℕ) (t : ℕ) → last_moment vs < t → any (written_at k t) vs ≡ false
unfolding any last_moment
none_above [] k t h = refl
none_above (v ∷ vs) k t h = go (ltb v.moment (last_moment vs)) refl h (λ l. none_above vs k t l)
  where
    one : v.moment < t → (same v.key k && eqb v.moment t) ≡ false
    one l = rw (ne_eqb v.moment t (λ e. omega arith)) (and_none (same v.key k))
      where
        and_none : (b : Bool) → (b && false) ≡ false
        and_none true = refl
        and_none false = refl

    go : (b : Bool) → ltb v.moment (last_moment vs) ≡ b → pick b (last_moment vs) v.moment < t → (last_moment vs < t → any (written_at k t) vs ≡ false) → or (written_at k t v) (any (written_at k t) vs) ≡ false
    go true e l ih = let q = ltb-true v.moment (last_moment vs) e in rw (one (omega arith)) (ih l)
    go false e l ih = let q = ltb-false v.moment (last_moment vs) e in rw (one l) (ih (omega arith))

-- where nothing is seen up to it, nothing was written at it
pub none_seen : (vs : List Version) (k : List ℕ) (t : ℕ) → latest vs k (suc t) ≡ [] → any (written_at k t) vs ≡ false
unfolding any latest none_of
none_seen [] k t e = refl
none_seen (v ∷ vs) k t e = go (latest vs k (suc t)) refl (same v.key k) (eqb v.moment t) refl e (λ q. none_seen vs k t q)
  where
    go : (l : List Version) → latest vs k (suc t) ≡ l → (a b : Bool) → eqb v.moment t ≡ b → pick (none_of l) (pick (a && ltb v.moment (suc t)) (v ∷ []) []) l ≡ [] → (latest vs k (suc t) ≡ [] → any (written_at k t) vs ≡ false) → or (a && b) (any (written_at k t) vs) ≡ false
    go (x ∷ xs) q a b z y ih = cc
    go [] q false b z y ih = ih q
    go [] q true false z y ih = ih q
    go [] q true true z y ih =
        let m = eqb-true v.moment t z in
        let y₁ : pick true (v ∷ []) [] ≡ [] = subst (λ c. pick c (v ∷ []) [] ≡ []) (lt-ltb v.moment (suc t) (omega arith)) y in
        cc

-- the latest below a moment is below it
latest_below : (vs : List Version) (k : List ℕ) (s : ℕ) → every (λ v. ltb v.moment s) (latest vs k s) ≡ true
unfolding every latest none_of
latest_below [] k s = refl
latest_below (v ∷ vs) k s = go (latest vs k s) (same v.key k) (ltb v.moment s) refl (latest_below vs k s)
  where
    go : (l : List Version) (a b : Bool) → ltb v.moment s ≡ b → every (λ u. ltb u.moment s) l ≡ true → every (λ u. ltb u.moment s) (pick (none_of l) (pick (a && b) (v ∷ []) []) l) ≡ true
    go [] true true z e = rw z refl
    go [] true false z e = refl
    go [] false b z e = refl
    go (x ∷ xs) a b z e = e

below_it : (vs : List Version) (k : List ℕ) (s : ℕ) (u : Version) → latest vs k s ≡ u ∷ [] → u.moment < s
unfolding every
below_it vs k s u e = ltb-true u.moment s (and_left_of (ltb u.moment s) true (rw e at (latest_below vs k s)))

-- where what is seen up to it is earlier, nothing was written at it
pub earlier_seen : (vs : List Version) (k : List ℕ) (t : ℕ) (u : Version) → rising vs ≡ true → latest vs k (suc t) ≡ u ∷ [] → (u.moment ≡ t → ⊥) → any (written_at k t) vs ≡ false
unfolding any latest none_of rising
earlier_seen [] k t u r e d = cc
earlier_seen (v ∷ vs) k t u r e d = go (latest vs k (suc t)) refl (same v.key k) (eqb v.moment t) refl e (λ q. earlier_seen vs k t u (and_right_of (every (not_later v) vs) (rising vs) r) q d)
  where
    up : every (not_later v) vs ≡ true
    up = and_left_of (every (not_later v) vs) (rising vs) r

    go : (l : List Version) → latest vs k (suc t) ≡ l → (a b : Bool) → eqb v.moment t ≡ b → pick (none_of l) (pick (a && ltb v.moment (suc t)) (v ∷ []) []) l ≡ u ∷ [] → (latest vs k (suc t) ≡ u ∷ [] → any (written_at k t) vs ≡ false) →
        or (a && b) (any (written_at k t) vs) ≡ false
    go [] q false b z y ih = none_seen vs k t q
    go [] q true false z y ih = none_seen vs k t q
    go [] q true true z y ih =
        let m = eqb-true v.moment t z in
        let y₁ : pick true (v ∷ []) [] ≡ u ∷ [] = subst (λ c. pick c (v ∷ []) [] ≡ u ∷ []) (lt-ltb v.moment (suc t) (omega arith)) y in
        let w : v ≡ u = cc in
        absurd (d (sym (ap (λ x. x.moment) w) ∙ m))
    go (x ∷ xs) q false b z y ih = ih (q ∙ y)
    go (x ∷ xs) q true false z y ih = ih (q ∙ y)
    go (x ∷ xs) q true true z y ih =
        let m = eqb-true v.moment t z in
        let low = below_it vs k (suc t) u (q ∙ y) in
        let high = leb-true v.moment u.moment (and_left_of (leb v.moment u.moment) _ (latest_has (not_later v) vs k (suc t) u (q ∙ y) up)) in
        absurd (d (omega arith))
