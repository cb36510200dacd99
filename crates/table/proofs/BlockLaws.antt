-- The versions that a reading passes over stand in front: in a table in order one block decides.
use Rattle.std.proofs.Common.{◌≡◌, ℕ, ◌≤◌, Bool, true, false, ◌&&◌, ltb, leb, ◌⊎◌, List, [], ◌∷◌, ◌++◌, sym, refl, ap, ◌∙◌, inl, inr, append_assoc, arith, ltb-true, le-ltb, lt-ltb, le-leb, leb-false, leb-true}
use borrow.Author.Tests.{both_ways}
use Rattle.value.specs.Versions.{pick, or, every, none_of, same, before, Version}
use Rattle.value.specs.Sorted.{comes_first, in_order, lookup}
use Rattle.value.proofs.TestLaws.{clash, and_left_of, and_right_of, or_cases, every_mono}
use Rattle.value.proofs.KeyLaws.{same_eq, before_trans, Order, before_it, same_as, behind_it, order}
use Rattle.value.proofs.LatestLaws.{pick_none}
use Rattle.value.proofs.SeenLaws.{behind}
use Rattle.value.proofs.SortLaws.{lookup_absent}
use Rattle.table.specs.Blocks.{no_bound, bound_of, ahead, last_one, not_ahead, BlockDecides, NoneDecides, AheadFalls}

-- v stands in front of what a reading of k at s wants
abbrev pub prior : List ℕ → ℕ → Version → Bool
prior k s v = or (before v.key k) (same v.key k && leb s v.moment)

-- what comes first of a version that stands in front stands in front
prior_first : (k : List ℕ) (s : ℕ) (u w : Version) → comes_first u w ≡ true → prior k s w ≡ true → prior k s u ≡ true
prior_first k s u w c p = go (or_cases (before u.key w.key) _ c) (or_cases (before w.key k) _ p)
  where
    go :
        (before u.key w.key ≡ true) ⊎ ((same u.key w.key && ltb w.moment u.moment) ≡ true) →
        (before w.key k ≡ true) ⊎ ((same w.key k && leb s w.moment) ≡ true) → prior k s u ≡ true
    go (inl a) (inl b) = rw (before_trans u.key w.key k a b) refl
    go (inl a) (inr b) = rw (rw (same_eq w.key k (and_left_of (same w.key k) (leb s w.moment) b)) at a) refl
    go (inr a) (inl b) = rw (rw (sym (same_eq u.key w.key (and_left_of (same u.key w.key) (ltb w.moment u.moment) a))) at b) refl
    go (inr a) (inr b) =
        let e = same_eq u.key w.key (and_left_of (same u.key w.key) (ltb w.moment u.moment) a) in
        let l = ltb-true w.moment u.moment (and_right_of (same u.key w.key) (ltb w.moment u.moment) a) in
        let h = leb-true s w.moment (and_right_of (same w.key k) (leb s w.moment) b) in
        let q : leb s u.moment ≡ true = le-leb s u.moment (omega arith) in
        grind (arith, and_left_of (same w.key k) (leb s w.moment) b)

-- in order, taken apart
order_head : (v : Version) (vs : List Version) → in_order (v ∷ vs) ≡ true → every (comes_first v) vs ≡ true
unfolding in_order
order_head v vs h = and_left_of (every (comes_first v) vs) (in_order vs) h

order_tail : (v : Version) (vs : List Version) → in_order (v ∷ vs) ≡ true → in_order vs ≡ true
unfolding in_order
order_tail v vs h = and_right_of (every (comes_first v) vs) (in_order vs) h

pub every_front : (f : Version → Bool) (xs ys : List Version) → every f (xs ++ ys) ≡ true → every f xs ≡ true
unfolding every
every_front f [] ys h = refl
every_front f (x ∷ xs) ys h = rw (and_left_of (f x) (every f (xs ++ ys)) h) (every_front f xs ys (and_right_of (f x) (every f (xs ++ ys)) h))

pub every_back : (f : Version → Bool) (xs ys : List Version) → every f (xs ++ ys) ≡ true → every f ys ≡ true
unfolding every
every_back f [] ys h = h
every_back f (x ∷ xs) ys h = every_back f xs ys (and_right_of (f x) (every f (xs ++ ys)) h)

pub order_front : (xs ys : List Version) → in_order (xs ++ ys) ≡ true → in_order xs ≡ true
unfolding in_order
order_front [] ys h = refl
order_front (x ∷ xs) ys h =
    rw (every_front (comes_first x) xs ys (and_left_of (every (comes_first x) (xs ++ ys)) (in_order (xs ++ ys)) h))
    (order_front xs ys (and_right_of (every (comes_first x) (xs ++ ys)) (in_order (xs ++ ys)) h))

pub order_back : (xs ys : List Version) → in_order (xs ++ ys) ≡ true → in_order ys ≡ true
order_back [] ys h = h
order_back (x ∷ xs) ys h = order_back xs ys (order_tail x (xs ++ ys) h)

-- the last of a list comes first of what stands behind it
abbrev first_of : Version → Version → Bool
first_of v u = comes_first u v

last_first : (us : List Version) (v : Version) (vs : List Version) → in_order (us ++ v ∷ vs) ≡ true → every (first_of v) (last_one [] us) ≡ true
unfolding last_one every
last_first [] v vs h = refl
last_first (u ∷ []) v vs h = rw (and_left_of (comes_first u v) (every (comes_first u) vs) (order_head u (v ∷ vs) h)) refl
last_first (u ∷ w ∷ us) v vs h = last_first (w ∷ us) v vs (order_tail u ((w ∷ us) ++ v ∷ vs) h)

-- if the last stands in front, all do
last_prior : (k : List ℕ) (s : ℕ) (us : List Version) → in_order us ≡ true → every (prior k s) (last_one [] us) ≡ true → every (prior k s) us ≡ true
unfolding last_one every
last_prior k s [] h p = refl
last_prior k s (u ∷ []) h p = p
last_prior k s (u ∷ w ∷ us) h p =
    let ih = last_prior k s (w ∷ us) (order_tail u (w ∷ us) h) p in
    let c = and_left_of (comes_first u w) (every (comes_first u) us) (order_head u (w ∷ us) h) in
    rw (prior_first k s u w c (and_left_of (prior k s w) (every (prior k s) us) ih)) ih

-- and so does the last, if all do
prior_last : (k : List ℕ) (s : ℕ) (us : List Version) → every (prior k s) us ≡ true → every (prior k s) (last_one [] us) ≡ true
unfolding last_one every
prior_last k s [] p = refl
prior_last k s (u ∷ []) p = p
prior_last k s (u ∷ w ∷ us) p = prior_last k s (w ∷ us) (and_right_of (prior k s u) (every (prior k s) (w ∷ us)) p)

-- the last is at most one
abbrev AtMostOne : List Version → Type 0
AtMostOne [] = Unit {0}
AtMostOne (u ∷ []) = Unit {0}
AtMostOne (u ∷ w ∷ us) = ⊥

last_single : (us : List Version) → AtMostOne (last_one [] us)
unfolding last_one
last_single [] = tt
last_single (u ∷ []) = tt
last_single (u ∷ w ∷ us) = last_single (w ∷ us)

-- WHAT THE TEST MEANS: all before the block stand in front, and its head is not behind k
ahead_prior : (k : List ℕ) (s : ℕ) (p : List Version) (v : Version) → AtMostOne p → every (first_of v) p ≡ true → ahead k s (bound_of p v) v.key ≡ true →
    (every (prior k s) p ≡ true) × (before k v.key ≡ false)
unfolding ahead bound_of every
ahead_prior k s [] v o f a = (refl, go (order v.key k))
  where
    go : Order v.key k → before k v.key ≡ false
    go (before_it x y z) = y
    go (same_as e x y z) = y
    go (behind_it x y z) = clash true refl (sym (rw (x, z) at a))
ahead_prior k s (u ∷ []) v o f a = go (order v.key k) (order u.key v.key)
  where
    c : comes_first u v ≡ true
    c = and_left_of (comes_first u v) true f

    go : Order v.key k → Order u.key v.key → (every (prior k s) (u ∷ []) ≡ true) × (before k v.key ≡ false)
    go (behind_it x y z) q = clash true refl (sym (rw (x, z) at a))
    go (before_it x y z) (before_it x₁ y₁ z₁) = (rw (before_trans u.key v.key k x₁ x) refl, y)
    go (before_it x y z) (same_as e₁ x₁ y₁ z₁) = (rw (ap (λ j. before j k) e₁ ∙ x) refl, y)
    go (before_it x y z) (behind_it x₁ y₁ z₁) = clash true refl (sym (rw (x₁, z₁) at c))
    go (same_as e x y z) (before_it x₁ y₁ z₁) = (rw (sym (ap (before u.key) e) ∙ x₁) refl, y)
    go (same_as e x y z) (same_as e₁ x₁ y₁ z₁) =
        (rw (ap (λ j. before j k) e₁ ∙ x, ap (λ j. same j k) e₁ ∙ z, rw (x, z, z₁) at a) refl, y)
    go (same_as e x y z) (behind_it x₁ y₁ z₁) = clash true refl (sym (rw (x₁, z₁) at c))
ahead_prior k s (u ∷ w ∷ us) v o f a = absurd o

prior_ahead : (k : List ℕ) (s : ℕ) (p : List Version) (v : Version) → s ≤ no_bound → AtMostOne p → every (prior k s) p ≡ true → before k v.key ≡ false →
    ahead k s (bound_of p v) v.key ≡ true
unfolding ahead bound_of every
prior_ahead k s [] v l o a b = go (order v.key k)
  where
    go : Order v.key k → or (before v.key k) (same v.key k && leb s no_bound) ≡ true
    go (before_it x y z) = rw x refl
    go (same_as e x y z) = rw (x, z) (le-leb s no_bound l)
    go (behind_it x y z) = clash (before k v.key) y b
prior_ahead k s (u ∷ []) v l o a b = go (order v.key k) (order u.key v.key)
  where
    go : Order v.key k → Order u.key v.key → or (before v.key k) (same v.key k && leb s (pick (same u.key v.key) u.moment no_bound)) ≡ true
    go (before_it x y z) q = rw x refl
    go (behind_it x y z) q = clash (before k v.key) y b
    go (same_as e x y z) (before_it x₁ y₁ z₁) = rw (x, z, z₁) (le-leb s no_bound l)
    go (same_as e x y z) (behind_it x₁ y₁ z₁) = rw (x, z, z₁) (le-leb s no_bound l)
    go (same_as e x y z) (same_as e₁ x₁ y₁ z₁) =
        rw (x, z, z₁) (rw (ap (λ j. before j k) e₁ ∙ x, ap (λ j. same j k) e₁ ∙ z) at (and_left_of (prior k s u) true a))
prior_ahead k s (u ∷ w ∷ us) v l o a b = absurd o

-- what stands in front is not what is looked for
lookup_prior : (k : List ℕ) (s : ℕ) (us : List Version) → every (prior k s) us ≡ true → lookup us k s ≡ []
unfolding lookup every
lookup_prior k s [] h = refl
lookup_prior k s (u ∷ us) h = rw (go (order u.key k)) (lookup_prior k s us (and_right_of (prior k s u) (every (prior k s) us) h))
  where
    p : prior k s u ≡ true
    p = and_left_of (prior k s u) (every (prior k s) us) h

    go : Order u.key k → (same u.key k && ltb u.moment s) ≡ false
    go (before_it x y z) = rw z refl
    go (same_as e x y z) = rw z (le-ltb u.moment s (leb-true s u.moment (rw (x, z) at p)))
    go (behind_it x y z) = rw z refl

pub lookup_append : (xs ys : List Version) (k : List ℕ) (s : ℕ) → lookup (xs ++ ys) k s ≡ pick (none_of (lookup xs k s)) (lookup ys k s) (lookup xs k s)
unfolding lookup none_of
lookup_append [] ys k s = refl
lookup_append (x ∷ xs) ys k s = go (same x.key k && ltb x.moment s) (lookup_append xs ys k s)
  where
    go : (b : Bool) → lookup (xs ++ ys) k s ≡ pick (none_of (lookup xs k s)) (lookup ys k s) (lookup xs k s) →
        pick b (x ∷ []) (lookup (xs ++ ys) k s) ≡ pick (none_of (pick b (x ∷ []) (lookup xs k s))) (lookup ys k s) (pick b (x ∷ []) (lookup xs k s))
    go true ih = refl
    go false ih = ih

-- what stands in front is not behind k
prior_not_behind : (k : List ℕ) (s : ℕ) (v : Version) → prior k s v ≡ true → before k v.key ≡ false
prior_not_behind k s v p = go (order v.key k)
  where
    go : Order v.key k → before k v.key ≡ false
    go (before_it x y z) = y
    go (same_as e x y z) = y
    go (behind_it x y z) = clash true refl (sym (rw (x, z) at p))

-- one that is looked for is found, there or before
lookup_last : (k : List ℕ) (s : ℕ) (us : List Version) (u : Version) → last_one [] us ≡ u ∷ [] → (same u.key k && ltb u.moment s) ≡ true → none_of (lookup us k s) ≡ false
unfolding lookup last_one none_of
lookup_last k s [] u e w = absurd (both_ways true (cc) refl)
lookup_last k s (x ∷ []) u e w = let q : x ≡ u = cc in rw (ap (λ y. same y.key k && ltb y.moment s) q ∙ w) refl
lookup_last k s (x ∷ y ∷ us) u e w = go (same x.key k && ltb x.moment s) (lookup_last k s (y ∷ us) u e w)
  where
    go : (b : Bool) → none_of (lookup (y ∷ us) k s) ≡ false → none_of (pick b (x ∷ []) (lookup (y ∷ us) k s)) ≡ false
    go true ih = refl
    go false ih = ih

pick_nothing : (l m : List Version) → l ≡ [] → pick (none_of l) m l ≡ m
unfolding none_of
pick_nothing l m e = rw e refl

-- what comes first of a key behind k is behind k
first_behind : (k : List ℕ) (w u : Version) → before k w.key ≡ true → comes_first w u ≡ true → behind k u ≡ true
first_behind k w u b c = go (or_cases (before w.key u.key) _ c)
  where
    go : (before w.key u.key ≡ true) ⊎ ((same w.key u.key && ltb u.moment w.moment) ≡ true) → before k u.key ≡ true
    go (inl x) = before_trans k w.key u.key b x
    go (inr x) = sym (ap (before k) (same_eq w.key u.key (and_left_of (same w.key u.key) (ltb u.moment w.moment) x))) ∙ b

all_behind : (k : List ℕ) (w : Version) (ws : List Version) → in_order (w ∷ ws) ≡ true → before k w.key ≡ true → every (behind k) (w ∷ ws) ≡ true
unfolding every
all_behind k w ws h b = rw b (every_mono (comes_first w) (behind k) (λ u c. first_behind k w u b c) ws (order_head w ws h))

-- one that comes first of a key up to k, and does not stand in front, is looked for
wanted_last : (k : List ℕ) (s : ℕ) (u w : Version) → comes_first u w ≡ true → before k w.key ≡ false → prior k s u ≡ false → (same u.key k && ltb u.moment s) ≡ true
wanted_last k s u w c b p = go (order u.key k)
  where
    go : Order u.key k → (same u.key k && ltb u.moment s) ≡ true
    go (before_it x y z) = clash true refl (rw x at p)
    go (same_as e x y z) = rw z (lt-ltb u.moment s (leb-false s u.moment (rw (x, z) at p)))
    go (behind_it x y z) = clash (before k w.key) (first_behind k u w y c) b

-- behind a block that is not ahead nothing is looked for that was not found before it
rest_decides_not : (xs ws : List Version) (k : List ℕ) (s : ℕ) → in_order (xs ++ ws) ≡ true → s ≤ no_bound → not_ahead k s (last_one [] xs) ws →
    lookup (xs ++ ws) k s ≡ lookup xs k s
unfolding not_ahead lookup every
rest_decides_not xs [] k s h l n = lookup_append xs [] k s ∙ sym (pick_none (lookup xs k s))
rest_decides_not xs (w ∷ ws) k s h l n = lookup_append xs (w ∷ ws) k s ∙ go (before k w.key) refl
  where
    found : (p : List Version) → last_one [] xs ≡ p → AtMostOne p → every (first_of w) p ≡ true → before k w.key ≡ false → none_of (lookup xs k s) ≡ false
    found [] e o f b = clash (ahead k s (bound_of (last_one [] xs) w) w.key) (prior_ahead k s (last_one [] xs) w l (last_single xs) (rw e refl) b) n
    found (u ∷ []) e o f b = then (prior k s u) refl
      where
        then : (c : Bool) → prior k s u ≡ c → none_of (lookup xs k s) ≡ false
        then true q = clash (ahead k s (bound_of (last_one [] xs) w) w.key) (prior_ahead k s (last_one [] xs) w l (last_single xs) (rw e (rw q refl)) b) n
        then false q = lookup_last k s xs u e (wanted_last k s u w (and_left_of (comes_first u w) true f) b q)
    found (u ∷ x ∷ us) e o f b = absurd o

    go : (b : Bool) → before k w.key ≡ b → pick (none_of (lookup xs k s)) (lookup (w ∷ ws) k s) (lookup xs k s) ≡ lookup xs k s
    go true e = rw (lookup_absent k s (w ∷ ws) (all_behind k w ws (order_back xs (w ∷ ws) h) e)) (sym (pick_none (lookup xs k s)))
    go false e = rw (found (last_one [] xs) refl (last_single xs) (last_first xs w ws h) e) refl

pub block_decides : BlockDecides
block_decides us v vs ws k s h l a n =
    let h₁ : in_order (us ++ (v ∷ (vs ++ ws))) ≡ true = rw append_assoc at h in
    let front = last_prior k s us (order_front us (v ∷ (vs ++ ws)) h₁) (ahead_prior k s (last_one [] us) v (last_single us) (last_first us v (vs ++ ws) h₁) a).0 in
    rest_decides_not (us ++ v ∷ vs) ws k s h l n ∙ lookup_append us (v ∷ vs) k s ∙ pick_nothing (lookup us k s) (lookup (v ∷ vs) k s) (lookup_prior k s us front)

pub none_decides : NoneDecides
unfolding last_one lookup
none_decides ws k s h l n = rest_decides_not [] ws k s h l n

pub ahead_falls : AheadFalls
unfolding every
ahead_falls us v vs w ws k s h l a =
    let all = last_prior k s (us ++ v ∷ vs) (order_front (us ++ v ∷ vs) (w ∷ ws) h)
    (ahead_prior k s (last_one [] (us ++ v ∷ vs)) w (last_single (us ++ v ∷ vs)) (last_first (us ++ v ∷ vs) w ws h) a).0 in
    prior_ahead k s (last_one [] us) v l (last_single us) (prior_last k s us (every_front (prior k s) us (v ∷ vs) all))
    (prior_not_behind k s v (and_left_of (prior k s v) (every (prior k s) vs) (every_back (prior k s) us (v ∷ vs) all)))
