-- Forgetting is a walk over the table.
use Rattle.std.proofs.Common.{◌≡◌, ℕ, Bool, true, false, ◌&&◌, ltb, List, [], ◌∷◌, sym, refl, ap, ◌∙◌}
use Rattle.value.specs.Versions.{pick, or, every, any, same, before, Version, later_below, kept}
use Rattle.value.specs.Sorted.{insert_old, sort, not_under, by_key, passed, kept_from, kept_sorted, slim, slim_sorted, ForgetRight}
use Rattle.value.proofs.TestLaws.{clash, and_left_of, and_right_of, and_false_right, every_not_any}
use Rattle.value.proofs.KeyLaws.{before_apart, before_apart', le_lt, Order, before_it, same_as, behind_it, order}
use Rattle.value.proofs.KeptLaws.{below}
use Rattle.value.proofs.SeenLaws.{behind}
use Rattle.value.proofs.SortLaws.{sort_any, sort_by_key, all_behind}
use borrow.Author.Tests.{not-true}

or_false_right : (a : Bool) → or a false ≡ a
or_false_right true = refl
or_false_right false = refl

pub kept_every : (f : Version → Bool) (o : Bool) (t : ℕ) (k : List ℕ) (p : Bool) (us : List Version) → every f us ≡ true → every f (kept_from o t k p us) ≡ true
unfolding every kept_from
kept_every f o t k p [] h = refl
kept_every f o t k p (u ∷ us) h =
    go (ltb u.moment t && or (o && u.gone) (passed k p u)) _ (kept_every f o t u.key _ us (and_right_of (f u) (every f us) h))
  where
    go : (b : Bool) (l : List Version) → every f l ≡ true → every f (pick b l (u ∷ l)) ≡ true
    go true l e = e
    go false l e = rw (and_left_of (f u) (every f us) h) e

-- what the walk knows matters only where the next one is of the key that it passed
pub kept_fresh : (o : Bool) (t : ℕ) (k j : List ℕ) (p q : Bool) (u : Version) (us : List Version) → passed k p u ≡ passed j q u →
    kept_from o t k p (u ∷ us) ≡ kept_from o t j q (u ∷ us)
unfolding kept_from
kept_fresh o t k j p q u us e = rw e refl

pub insert_front : (v : Version) (us : List Version) → every (behind v.key) us ≡ true → insert_old v us ≡ v ∷ us
unfolding insert_old every
insert_front v [] h = refl
insert_front v (u ∷ us) h = rw (and_left_of (before v.key u.key) (every (behind v.key) us) h) refl

-- one of the key below t, passed or to come
knows : (k : List ℕ) (p : Bool) (u v : Version) (m r : Bool) → before u.key k ≡ false → before v.key u.key ≡ false →
    or (passed k p v) (or (same u.key v.key && m) r) ≡ or (passed u.key (or (passed k p u) m) v) r
knows k p u v m r h e = go (order u.key v.key)
  where
    shift : (a m r : Bool) → or a (or m r) ≡ or (or a m && true) r
    shift true m r = refl
    shift false true r = refl
    shift false false r = refl

    go : Order u.key v.key → or (passed k p v) (or (same u.key v.key && m) r) ≡ or (passed u.key (or (passed k p u) m) v) r
    go (before_it x y z) =
        rw (z, and_false_right, before_apart k v.key (le_lt k u.key v.key h x), and_false_right) refl
    go (same_as x _ _ y) = rw (y, ap (same k) x) (shift (passed k p v) m r)
    go (behind_it x y z) = clash (before v.key u.key) y e

kept_insert : (o : Bool) (t : ℕ) (v : Version) (us : List Version) (k : List ℕ) (p : Bool) → by_key us ≡ true → every (not_under k) us ≡ true → before v.key k ≡ false →
    kept_from o t k p (insert_old v us) ≡
    pick (ltb v.moment t && or (o && v.gone) (or (passed k p v) (later_below us v.key t))) (kept_from o t k p us) (insert_old v (kept_from o t k p us))
unfolding insert_old kept_from later_below any by_key every
kept_insert o t v [] k p s n h = rw (or_false_right (passed k p v)) refl
kept_insert o t v (u ∷ us) k p s n h =
    go (before v.key u.key) refl
    (kept_insert o t v us u.key (or (passed k p u) (ltb u.moment t)) (and_right_of (every (not_under u.key) us) (by_key us) s)
    (and_left_of (every (not_under u.key) us) (by_key us) s))
  where
    A : List Version
    A = kept_from o t k p (u ∷ us)

    B : List Version
    B = kept_from o t u.key (or (passed k p u) (ltb u.moment t)) us

    last : before v.key u.key ≡ false → (d e : Bool) →
        pick d (pick e B (insert_old v B)) (u ∷ pick e B (insert_old v B)) ≡ pick e (pick d B (u ∷ B)) (insert_old v (pick d B (u ∷ B)))
    last q true true = refl
    last q true false = refl
    last q false true = refl
    last q false false = rw q refl

    fresh : before v.key u.key ≡ true → passed v.key (or (passed k p v) (ltb v.moment t)) u ≡ passed k p u
    fresh q =
        rw (before_apart v.key u.key q, before_apart k u.key (le_lt k v.key u.key h q)) (and_false_right (or (passed k p v) (ltb v.moment t)) ∙ sym (and_false_right p))

    go : (b : Bool) → before v.key u.key ≡ b →
        (before v.key u.key ≡ false →
        kept_from o t u.key (or (passed k p u) (ltb u.moment t)) (insert_old v us) ≡
        pick (ltb v.moment t && or (o && v.gone) (or (passed u.key (or (passed k p u) (ltb u.moment t)) v) (later_below us v.key t))) B (insert_old v B)) →
        kept_from o t k p (pick b (v ∷ u ∷ us) (u ∷ insert_old v us)) ≡
        pick (ltb v.moment t && or (o && v.gone) (or (passed k p v) (later_below (u ∷ us) v.key t))) A (insert_old v A)
    go true q ih =
        rw (
          every_not_any (behind v.key) (below v.key t) (λ w e. rw (before_apart' v.key w.key e) refl) (u ∷ us) (all_behind v.key u us q s),
          or_false_right (passed k p v),
          insert_front v A (kept_every (behind v.key) o t k p (u ∷ us) (all_behind v.key u us q s)),
          kept_fresh o t v.key k (or (passed k p v) (ltb v.moment t)) p u us (fresh q),
        ) refl
    go false q ih =
        rw (ih q, knows k p u v (ltb u.moment t) (later_below us v.key t) (not-true _ (and_left_of (not_under k u) (every (not_under k) us) n)) q)
        (last q (ltb u.moment t && or (o && u.gone) (passed k p u)) _)

pub before_nil : (k : List ℕ) → before k [] ≡ false
unfolding before
before_nil [] = refl
before_nil (x ∷ xs) = refl

pub every_true : {A : Type 0} (f : A → Bool) → ((x : A) → f x ≡ true) → (xs : List A) → every f xs ≡ true
unfolding every
every_true f h [] = refl
every_true f h (x ∷ xs) = rw (h x) (every_true f h xs)

pub below_sort : (k : List ℕ) (t : ℕ) (vs : List Version) → later_below (sort vs) k t ≡ later_below vs k t
unfolding later_below
below_sort k t vs = sort_any (below k t) vs

pub from_nil : (us : List Version) → every (not_under []) us ≡ true
from_nil us = every_true (not_under []) (λ u. rw (before_nil u.key) refl) us

kept_sort : (t : ℕ) (vs : List Version) → kept_sorted t (sort vs) ≡ sort (kept t vs)
unfolding sort kept kept_from
kept_sort t [] = refl
kept_sort t (v ∷ vs) =
    kept_insert true t v (sort vs) [] false (sort_by_key vs) (from_nil (sort vs)) (before_nil v.key)
    ∙ rw (below_sort v.key t vs, kept_sort t vs) (go (ltb v.moment t && or v.gone (later_below vs v.key t)))
  where
    go : (b : Bool) → pick b (sort (kept t vs)) (insert_old v (sort (kept t vs))) ≡ sort (pick b (kept t vs) (v ∷ kept t vs))
    go true = refl
    go false = refl

slim_sort : (t : ℕ) (vs : List Version) → slim_sorted t (sort vs) ≡ sort (slim t vs)
unfolding sort slim kept_from
slim_sort t [] = refl
slim_sort t (v ∷ vs) =
    kept_insert false t v (sort vs) [] false (sort_by_key vs) (from_nil (sort vs)) (before_nil v.key)
    ∙ rw (below_sort v.key t vs, slim_sort t vs) (go (ltb v.moment t && later_below vs v.key t))
  where
    go : (b : Bool) → pick b (sort (slim t vs)) (insert_old v (sort (slim t vs))) ≡ sort (pick b (slim t vs) (v ∷ slim t vs))
    go true = refl
    go false = refl

pub forget_right : ForgetRight
forget_right vs t = (kept_sort t vs, slim_sort t vs)
