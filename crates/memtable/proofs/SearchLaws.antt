-- A search in the sorted list: where it ends, and what that place is for reading, for writing, and for a look at one moment.
use Rattle.std.proofs.Common.{◌≡◌, ℕ, zero, suc, ◌<◌, ◌≤◌, Bool, true, false, not, ◌&&◌, eqb, ltb, leb, ◌⊎◌, List, [], ◌∷◌, ◌++◌, length, get_or, take, drop, sym, refl, ap, ◌∙◌, ap₂, inl, inr, arith}
use Rattle.std.proofs.lemmas.Bool.{cases_lt, ltb-true, leb-true, eqb-true, lt-ltb, le-ltb, le-leb, lt-leb, not-true}
use borrow.Author.Tests.{eqb_apart}
use Rattle.value.specs.Versions.{pick, or, every, any, those, same, before, Version}
use Rattle.value.specs.Rising.{rising}
use Rattle.value.specs.Sorted.{insert_new, comes_first, in_order, lookup_stop, seek}
use Rattle.value.proofs.TestLaws.{clash, or_true_right, or_cases, and_left_of, and_right_of, every_mono, every_not_any, those_none, those_all}
use Rattle.value.proofs.KeyLaws.{same_eq, before_irrefl, before_trans, Order, before_it, same_as, behind_it, order}
use Rattle.std.specs.declared.cmp.Ordering.TheVariants.{Less, Equal, Greater}
use Rattle.memtable.specs.Memtable.{ahead}
use Rattle.memtable.specs.Holds.{goes_before}
use Rattle.memtable.proofs.KeyOrderLaws.{ordered}

-- the code's test is the list's
pub ahead_goes : (k : List ℕ) (s : ℕ) (v : Version) → ahead (ordered v.key k) v.moment s ≡ goes_before k s v
unfolding ordered
ahead_goes k s v = go (before v.key k) (same v.key k)
  where
    go : (a b : Bool) → ahead (pick a Less (pick b Equal Greater)) v.moment s ≡ or a (b && leb s v.moment)
    go true b = refl
    go false true = refl
    go false false = refl

-- how many at the beginning pass a test
unfoldable pub stretch : (Version → Bool) → List Version → ℕ
stretch f [] = 0
stretch f (u ∷ us) = pick (f u) (suc (stretch f us)) 0

pub stretch_is : (f : Version → Bool) (us : List Version) (r : ℕ) (d : Version) → r ≤ length us →
    ((k : ℕ) → k < r → f (get_or us k d) ≡ true) → ((k : ℕ) → r ≤ k → k < length us → f (get_or us k d) ≡ false) → r ≡ stretch f us
unfolding stretch
stretch_is f [] r d h low high = omega arith
stretch_is f (u ∷ us) zero d h low high = rw (high 0 (omega arith) (omega arith)) refl
stretch_is f (u ∷ us) (suc r) d h low high =
    let ih = stretch_is f us r d (omega arith) (λ k l. low (suc k) (omega arith)) (λ k l m. high (suc k) (omega arith) (omega arith)) in
    rw (low 0 (omega arith)) (ap suc ih)

pub stretch_within : (f : Version → Bool) (us : List Version) → stretch f us ≤ length us
unfolding stretch
stretch_within f [] = omega arith
stretch_within f (u ∷ us) = go (f u) (stretch_within f us)
  where
    go : (b : Bool) → stretch f us ≤ length us → pick b (suc (stretch f us)) 0 ≤ suc (length us)
    go true ih = omega arith
    go false ih = omega arith

-- what comes first goes before, if what comes behind it does
pub comes_goes : (k : List ℕ) (s : ℕ) (u w : Version) → comes_first u w ≡ true → goes_before k s w ≡ true → goes_before k s u ≡ true
comes_goes k s u w c g = go (or_cases (before u.key w.key) _ c) (or_cases (before w.key k) _ g)
  where
    go : (before u.key w.key ≡ true) ⊎ ((same u.key w.key && ltb w.moment u.moment) ≡ true) →
        (before w.key k ≡ true) ⊎ ((same w.key k && leb s w.moment) ≡ true) → goes_before k s u ≡ true
    go (inl p) (inl q) = rw (before_trans u.key w.key k p q) refl
    go (inl p) (inr q) = rw (rw (same_eq w.key k (and_left_of (same w.key k) _ q)) at p) refl
    go (inr p) (inl q) = rw (same_eq u.key w.key (and_left_of (same u.key w.key) _ p), q) refl
    go (inr p) (inr q) =
        let a = same_eq u.key w.key (and_left_of (same u.key w.key) _ p) in
        let b = ltb-true w.moment u.moment (and_right_of (same u.key w.key) _ p) in
        let l = leb-true s w.moment (and_right_of (same w.key k) _ q) in
        let e : same u.key k ≡ true = ap (λ x. same x k) a ∙ and_left_of (same w.key k) _ q in
        rw (e, le-leb s u.moment (omega arith)) (or_true_right (before u.key k))

pub every_get_or : (f : Version → Bool) (us : List Version) (i : ℕ) (d : Version) → i < length us → every f us ≡ true → f (get_or us i d) ≡ true
unfolding every
every_get_or f [] i d h e = absurd (omega arith)
every_get_or f (u ∷ us) zero d h e = and_left_of (f u) (every f us) e
every_get_or f (u ∷ us) (suc i) d h e = every_get_or f us i d (omega arith) (and_right_of (f u) (every f us) e)

pub goes_falls : (k : List ℕ) (s : ℕ) (us : List Version) (d : Version) → in_order us ≡ true → (i j : ℕ) → i ≤ j → j < length us →
    goes_before k s (get_or us j d) ≡ true → goes_before k s (get_or us i d) ≡ true
unfolding in_order
goes_falls k s [] d o i j h l g = absurd (omega arith)
goes_falls k s (u ∷ us) d o zero zero h l g = g
goes_falls k s (u ∷ us) d o zero (suc j) h l g =
    comes_goes k s u (get_or us j d) (every_get_or (comes_first u) us j d (omega arith) (and_left_of (every (comes_first u) us) (in_order us) o)) g
goes_falls k s (u ∷ us) d o (suc i) zero h l g = absurd (omega arith)
goes_falls k s (u ∷ us) d o (suc i) (suc j) h l g =
    goes_falls k s us d (and_right_of (every (comes_first u) us) (in_order us) o) i j (omega arith) (omega arith) g

-- READING: the first that does not go before, if it has the key
abbrev pub first_of : List ℕ → List Version → List Version
first_of k [] = []
first_of k (u ∷ us) = pick (same u.key k) (u ∷ []) []

pub lookup_first : (us : List Version) (k : List ℕ) (s : ℕ) → first_of k (drop (stretch (goes_before k s) us) us) ≡ lookup_stop us k s
unfolding stretch lookup_stop
lookup_first [] k s = refl
lookup_first (u ∷ us) k s = go (order u.key k) (lookup_first us k s)
  where
    at_key : (m : ℕ) (l : List Version) → same u.key k ≡ true → before u.key k ≡ false → first_of k (drop (stretch (goes_before k s) us) us) ≡ l →
        first_of k (drop (pick (leb s m) (suc (stretch (goes_before k s) us)) 0) (u ∷ us)) ≡ pick (ltb m s) (u ∷ []) l
    at_key m l e b ih = elim (cases_lt m s) [
      | inl h ↦ rw (lt-leb s m h, lt-ltb m s h, e) refl
      | inr h ↦ rw (le-leb s m h, le-ltb m s h) ih
    ]

    go : Order u.key k → first_of k (drop (stretch (goes_before k s) us) us) ≡ lookup_stop us k s →
        first_of k (drop (stretch (goes_before k s) (u ∷ us)) (u ∷ us)) ≡ lookup_stop (u ∷ us) k s
    go (before_it p q r) ih = rw (p, q, r) ih
    go (same_as e p q r) ih = rw (p, q, r) (at_key u.moment _ r p ih)
    go (behind_it p q r) ih = rw (p, q, r, r) refl

-- WRITING: the newest of its key stands where the search for it ends
abbrev pub newer : Version → Version → Bool
newer v u = not (same u.key v.key && leb v.moment u.moment)

pub insert_there : (v : Version) (us : List Version) → every (newer v) us ≡ true →
    insert_new v us ≡ take (stretch (goes_before v.key v.moment) us) us ++ (v ∷ drop (stretch (goes_before v.key v.moment) us) us)
unfolding stretch insert_new every
insert_there v [] h = refl
insert_there v (u ∷ us) h =
    go (before u.key v.key) (same u.key v.key && leb v.moment u.moment) (not-true _ (and_left_of (newer v u) (every (newer v) us) h))
    (insert_there v us (and_right_of (newer v u) (every (newer v) us) h))
  where
    go : (a b : Bool) → b ≡ false →
        insert_new v us ≡ take (stretch (goes_before v.key v.moment) us) us ++ (v ∷ drop (stretch (goes_before v.key v.moment) us) us) →
        pick a (u ∷ insert_new v us) (v ∷ u ∷ us) ≡
        take (pick (or a b) (suc (stretch (goes_before v.key v.moment) us)) 0) (u ∷ us)
        ++ (v ∷ drop (pick (or a b) (suc (stretch (goes_before v.key v.moment) us)) 0) (u ∷ us))
    go true b e ih = ap (λ l. u ∷ l) ih
    go false b e ih = rw e refl

newer_last : (v u : Version) → (leb u.moment v.moment && not (same u.key v.key && eqb u.moment v.moment)) ≡ true → newer v u ≡ true
newer_last v u h =
    go (same u.key v.key) (eqb u.moment v.moment) refl (leb-true u.moment v.moment (and_left_of (leb u.moment v.moment) _ h))
    (and_right_of (leb u.moment v.moment) _ h)
  where
    go : (a b : Bool) → eqb u.moment v.moment ≡ b → u.moment ≤ v.moment → not (a && b) ≡ true → not (a && leb v.moment u.moment) ≡ true
    go true true e l n = clash true refl (sym n)
    go true false e l n = rw (lt-leb v.moment u.moment (omega (arith, eqb_apart u.moment v.moment e))) refl
    go false b e l n = refl

pub rising_newer : (vs : List Version) (v : Version) → rising (vs ++ v ∷ []) ≡ true → every (newer v) vs ≡ true
unfolding rising every
rising_newer [] v h = refl
rising_newer (u ∷ vs) v h =
    rw (newer_last v u (every_last (λ w. leb u.moment w.moment && not (same u.key w.key && eqb u.moment w.moment)) vs v (and_left_of _ (rising (vs ++ v ∷ [])) h)))
    (rising_newer vs v (and_right_of _ (rising (vs ++ v ∷ [])) h))
  where
    every_last : (f : Version → Bool) (ws : List Version) (w : Version) → every f (ws ++ w ∷ []) ≡ true → f w ≡ true
    every_last f [] w e = and_left_of (f w) true e
    every_last f (x ∷ ws) w e = every_last f ws w (and_right_of (f x) _ e)

pub rising_front : (vs : List Version) (v : Version) → rising (vs ++ v ∷ []) ≡ true → rising vs ≡ true
unfolding rising every
rising_front [] v h = refl
rising_front (u ∷ vs) v h =
    rw (every_front (λ w. leb u.moment w.moment && not (same u.key w.key && eqb u.moment w.moment)) vs v (and_left_of _ (rising (vs ++ v ∷ [])) h))
    (rising_front vs v (and_right_of _ (rising (vs ++ v ∷ [])) h))
  where
    every_front : (f : Version → Bool) (ws : List Version) (w : Version) → every f (ws ++ w ∷ []) ≡ true → every f ws ≡ true
    every_front f [] w e = refl
    every_front f (x ∷ ws) w e = rw (and_left_of (f x) _ e) (every_front f ws w (and_right_of (f x) _ e))

-- A LOOK AT ONE MOMENT: it is the last of those that go before, or it is not there
abbrev pub is_at : List ℕ → ℕ → Version → Bool
is_at k m u = same u.key k && eqb u.moment m

abbrev pub last_at : List ℕ → ℕ → List Version → ℕ → Version → Bool
last_at k m us zero d = false
last_at k m us (suc r) d = is_at k m (get_or us r d)

at_goes : (k : List ℕ) (m : ℕ) (u : Version) → is_at k m u ≡ true → goes_before k m u ≡ true
at_goes k m u h =
    rw (and_left_of (same u.key k) _ h, le-leb m u.moment (omega (arith, eqb-true u.moment m (and_right_of (same u.key k) _ h)))) (or_true_right (before u.key k))

not_at : (k : List ℕ) (m : ℕ) (u : Version) → not (goes_before k m u) ≡ true → is_at k m u ≡ false
not_at k m u h = go (is_at k m u) refl
  where
    go : (b : Bool) → is_at k m u ≡ b → b ≡ false
    go false e = refl
    go true e = clash (goes_before k m u) (at_goes k m u e) (not-true _ h)

-- two at one moment and key do not come one before the other
at_first : (k : List ℕ) (m : ℕ) (u w : Version) → comes_first u w ≡ true → goes_before k m w ≡ true → is_at k m u ≡ false
at_first k m u w c g = go (is_at k m u) refl
  where
    there : is_at k m u ≡ true → (before u.key w.key ≡ true) ⊎ ((same u.key w.key && ltb w.moment u.moment) ≡ true) →
        (before w.key k ≡ true) ⊎ ((same w.key k && leb m w.moment) ≡ true) → is_at k m u ≡ false
    there e (inl p) (inl q) =
        let a = same_eq u.key k (and_left_of (same u.key k) _ e) in
        clash (before k k) (rw a at (before_trans u.key w.key k p q)) (before_irrefl k)
    there e (inl p) (inr q) =
        let a = same_eq u.key k (and_left_of (same u.key k) _ e) in
        let b = same_eq w.key k (and_left_of (same w.key k) _ q) in
        clash (before k k) (sym (ap₂ before a b) ∙ p) (before_irrefl k)
    there e (inr p) (inl q) =
        let a = same_eq u.key k (and_left_of (same u.key k) _ e) in
        let b = same_eq u.key w.key (and_left_of (same u.key w.key) _ p) in
        clash (before k k) (sym (ap (λ x. before x k) (sym b ∙ a)) ∙ q) (before_irrefl k)
    there e (inr p) (inr q) =
        let a = eqb-true u.moment m (and_right_of (same u.key k) _ e) in
        let b = ltb-true w.moment u.moment (and_right_of (same u.key w.key) _ p) in
        let l = leb-true m w.moment (and_right_of (same w.key k) _ q) in
        absurd (omega arith)

    go : (b : Bool) → is_at k m u ≡ b → b ≡ false
    go false e = refl
    go true e = sym e ∙ there e (or_cases (before u.key w.key) _ c) (or_cases (before w.key k) _ g)

-- from the first that does not go before on, none does
pub none_goes : (k : List ℕ) (s : ℕ) (u : Version) (us : List Version) → goes_before k s u ≡ false → every (comes_first u) us ≡ true →
    every (λ w. not (goes_before k s w)) us ≡ true
none_goes k s u us g h = every_mono (comes_first u) (λ w. not (goes_before k s w)) (λ w c. go w (goes_before k s w) refl c) us h
  where
    go : (w : Version) (b : Bool) → goes_before k s w ≡ b → comes_first u w ≡ true → not b ≡ true
    go w false e c = refl
    go w true e c = clash (goes_before k s u) (comes_goes k s u w c e) g

pub any_last : (k : List ℕ) (m : ℕ) (us : List Version) (d : Version) → in_order us ≡ true →
    last_at k m us (stretch (goes_before k m) us) d ≡ any (is_at k m) us
unfolding stretch any every in_order
any_last k m [] d o = refl
any_last k m (u ∷ us) d o =
    go (goes_before k m u) refl us (and_left_of (every (comes_first u) us) (in_order us) o) (any_last k m us d (and_right_of (every (comes_first u) us) (in_order us) o))
  where
    or_false : (b : Bool) → b ≡ or b false
    or_false true = refl
    or_false false = refl

    on : (w : Version) (ws : List Version) (g x : Bool) (r : ℕ) → goes_before k m w ≡ g → comes_first u w ≡ true → last_at k m (w ∷ ws) (pick g (suc r) 0) d ≡ x →
        is_at k m (get_or (u ∷ w ∷ ws) (pick g (suc r) 0) d) ≡ or (is_at k m u) x
    on w ws true x r e c ih = rw (at_first k m u w c e) ih
    on w ws false x r e c ih = or_false (is_at k m u) ∙ ap (or (is_at k m u)) ih

    next : (ws : List Version) → every (comes_first u) ws ≡ true → last_at k m ws (stretch (goes_before k m) ws) d ≡ any (is_at k m) ws →
        is_at k m (get_or (u ∷ ws) (stretch (goes_before k m) ws) d) ≡ or (is_at k m u) (any (is_at k m) ws)
    next [] c ih = or_false (is_at k m u)
    next (w ∷ ws) c ih = on w ws (goes_before k m w) _ (stretch (goes_before k m) ws) refl (and_left_of (comes_first u w) (every (comes_first u) ws) c) ih

    go : (b : Bool) → goes_before k m u ≡ b → (ws : List Version) → every (comes_first u) ws ≡ true →
        last_at k m ws (stretch (goes_before k m) ws) d ≡ any (is_at k m) ws →
        last_at k m (u ∷ ws) (pick b (suc (stretch (goes_before k m) ws)) 0) d ≡ or (is_at k m u) (any (is_at k m) ws)
    go false e ws c ih =
        rw (not_at k m u (rw e refl), every_not_any (λ w. not (goes_before k m w)) (is_at k m) (not_at k m) ws (none_goes k m u ws e c)) refl
    go true e ws c ih = next ws c ih

-- SEEKING: before the place stand all that go before, behind it all others
pub seek_parts : (k : List ℕ) (s : ℕ) (us : List Version) → in_order us ≡ true →
    (take (stretch (goes_before k s) us) us ≡ those (goes_before k s) us) × (drop (stretch (goes_before k s) us) us ≡ those (λ v. not (goes_before k s v)) us)
unfolding stretch those in_order
seek_parts k s [] o = (refl, refl)
seek_parts k s (u ∷ us) o =
    go (goes_before k s u) refl (seek_parts k s us (and_right_of (every (comes_first u) us) (in_order us) o)) (and_left_of (every (comes_first u) us) (in_order us) o)
  where
    go : (b : Bool) → goes_before k s u ≡ b →
        (take (stretch (goes_before k s) us) us ≡ those (goes_before k s) us) × (drop (stretch (goes_before k s) us) us ≡ those (λ v. not (goes_before k s v)) us) →
        every (comes_first u) us ≡ true →
        (take (pick b (suc (stretch (goes_before k s) us)) 0) (u ∷ us) ≡ pick b (u ∷ those (goes_before k s) us) (those (goes_before k s) us))
        × (drop (pick b (suc (stretch (goes_before k s) us)) 0) (u ∷ us) ≡ pick (not b) (u ∷ those (λ v. not (goes_before k s v)) us) (those (λ v. not (goes_before k s v)) us))
    go true e ih c = (ap (λ l. u ∷ l) ih.0, ih.1)
    go false e ih c =
        let n = none_goes k s u us e c in (
          sym (those_none (λ w. not (goes_before k s w)) (goes_before k s) (λ w h. not-true (goes_before k s w) h) us n),
          ap (λ l. u ∷ l) (sym (those_all (λ w. not (goes_before k s w)) (λ w. not (goes_before k s w)) (λ w h. h) us n)),
        )

-- above all moments it is the place of the key
pub seek_key : (k : List ℕ) (s : ℕ) (us : List Version) → every (λ v. ltb v.moment s) us ≡ true → drop (stretch (goes_before k s) us) us ≡ seek k us
unfolding stretch seek every
seek_key k s [] h = refl
seek_key k s (u ∷ us) h =
    go (before u.key k) (same u.key k) (lt-leb s u.moment (ltb-true u.moment s (and_left_of (ltb u.moment s) _ h))) (seek_key k s us (and_right_of (ltb u.moment s) _ h))
  where
    go : (a b : Bool) → leb s u.moment ≡ false → drop (stretch (goes_before k s) us) us ≡ seek k us →
        drop (pick (or a (b && leb s u.moment)) (suc (stretch (goes_before k s) us)) 0) (u ∷ us) ≡ pick a (seek k us) (u ∷ us)
    go true b e ih = ih
    go false true e ih = rw e refl
    go false false e ih = refl
