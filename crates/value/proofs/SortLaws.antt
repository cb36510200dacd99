-- The sorted view: its order, its weight, and what's looked up in it.
use Rattle.std.proofs.Common.{◌≡◌, ℕ, suc, ◌+◌, ◌≤◌, Bool, true, false, not, ◌&&◌, eqb, ltb, leb, ◌⊎◌, List, [], ◌∷◌, length, sym, refl, ap, ◌∙◌, inl, inr, arith, lt-ltb, leb-true}
use Rattle.value.specs.Versions.{pick, or, every, any, none_of, same, before, Version, latest, added_up}
use Rattle.value.specs.Rising.{rising}
use Rattle.value.specs.Sorted.{insert_old, sort, comes_first, in_order, not_under, by_key, lookup, lookup_stop, SortOrders, SortWeighs, LookupRight}
use borrow.Author.Tests.{not-true, eqb_apart}
use Rattle.value.proofs.TestLaws.{clash, and_left_of, and_right_of, or_cases, every_mono}
use Rattle.value.proofs.KeyLaws.{same_sym, same_eq, before_trans, before_not, before_apart', lt_le, le_le, Order, before_it, same_as, behind_it, order}
use Rattle.value.proofs.LatestLaws.{pick_none}
use Rattle.value.proofs.KeptLaws.{not_later}
use Rattle.value.proofs.SeenLaws.{behind}

pub insert_every : (f : Version → Bool) (v : Version) (us : List Version) → every f (insert_old v us) ≡ (f v && every f us)
unfolding every insert_old
insert_every f v [] = refl
insert_every f v (u ∷ us) = go (before v.key u.key) (insert_every f v us)
  where
    swap : (a b c : Bool) → (a && (b && c)) ≡ (b && (a && c))
    swap true true c = refl
    swap true false c = refl
    swap false true c = refl
    swap false false c = refl

    go : (b : Bool) → every f (insert_old v us) ≡ (f v && every f us) → every f (pick b (v ∷ u ∷ us) (u ∷ insert_old v us)) ≡ (f v && (f u && every f us))
    go true ih = refl
    go false ih = rw ih (swap (f u) (f v) (every f us))

pub sort_every : (f : Version → Bool) (vs : List Version) → every f (sort vs) ≡ every f vs
unfolding every sort
sort_every f [] = refl
sort_every f (v ∷ vs) = insert_every f v (sort vs) ∙ ap (λ b. f v && b) (sort_every f vs)

pub insert_any : (f : Version → Bool) (v : Version) (us : List Version) → any f (insert_old v us) ≡ or (f v) (any f us)
unfolding any insert_old
insert_any f v [] = refl
insert_any f v (u ∷ us) = go (before v.key u.key) (insert_any f v us)
  where
    swap : (a b c : Bool) → or a (or b c) ≡ or b (or a c)
    swap true true c = refl
    swap true false c = refl
    swap false true c = refl
    swap false false c = refl

    go : (b : Bool) → any f (insert_old v us) ≡ or (f v) (any f us) → any f (pick b (v ∷ u ∷ us) (u ∷ insert_old v us)) ≡ or (f v) (or (f u) (any f us))
    go true ih = refl
    go false ih = rw ih (swap (f u) (f v) (any f us))

pub sort_any : (f : Version → Bool) (vs : List Version) → any f (sort vs) ≡ any f vs
unfolding any sort
sort_any f [] = refl
sort_any f (v ∷ vs) = insert_any f v (sort vs) ∙ ap (λ b. or (f v) b) (sort_any f vs)

pub insert_adds : (f : Version → ℕ) (v : Version) (us : List Version) → added_up f (insert_old v us) ≡ f v + added_up f us
unfolding added_up insert_old
insert_adds f v [] = refl
insert_adds f v (u ∷ us) = go (before v.key u.key) (insert_adds f v us)
  where
    go : (b : Bool) → added_up f (insert_old v us) ≡ f v + added_up f us →
        added_up f (pick b (v ∷ u ∷ us) (u ∷ insert_old v us)) ≡ f v + (f u + added_up f us)
    go true ih = refl
    go false ih = omega arith

pub sort_adds : (f : Version → ℕ) (vs : List Version) → added_up f (sort vs) ≡ added_up f vs
unfolding added_up sort
sort_adds f [] = refl
sort_adds f (v ∷ vs) = insert_adds f v (sort vs) ∙ ap (λ n. f v + n) (sort_adds f vs)

pub insert_length : (v : Version) (us : List Version) → length (insert_old v us) ≡ suc (length us)
unfolding insert_old
insert_length v [] = refl
insert_length v (u ∷ us) = go (before v.key u.key) (insert_length v us)
  where
    go : (b : Bool) → length (insert_old v us) ≡ suc (length us) → length (pick b (v ∷ u ∷ us) (u ∷ insert_old v us)) ≡ suc (suc (length us))
    go true ih = refl
    go false ih = ap suc ih

pub sort_length : (vs : List Version) → length (sort vs) ≡ length vs
unfolding sort
sort_length [] = refl
sort_length (v ∷ vs) = insert_length v (sort vs) ∙ ap suc (sort_length vs)

pub sort_weighs : SortWeighs
sort_weighs vs = (sort_adds _ vs, sort_length vs)

-- k ≤ j: what's not under j isn't under k
pub under_mono : (k j : List ℕ) → before j k ≡ false → (us : List Version) → every (not_under j) us ≡ true → every (not_under k) us ≡ true
under_mono k j h us e = every_mono (not_under j) (not_under k) (λ u p. rw (le_le k j u.key h (not-true (before u.key j) p)) refl) us e

-- k < j: what's not under j is behind k
pub under_behind : (k j : List ℕ) → before k j ≡ true → (us : List Version) → every (not_under j) us ≡ true → every (behind k) us ≡ true
under_behind k j h us e = every_mono (not_under j) (behind k) (λ u p. lt_le k j u.key h (not-true (before u.key j) p)) us e

-- in a list by key all from the first on are behind what's before the first
pub all_behind : (k : List ℕ) (u : Version) (us : List Version) → before k u.key ≡ true → by_key (u ∷ us) ≡ true → every (behind k) (u ∷ us) ≡ true
unfolding every by_key
all_behind k u us h e = rw h (under_behind k u.key h us (and_left_of (every (not_under u.key) us) (by_key us) e))

pub insert_by_key : (v : Version) (us : List Version) → by_key us ≡ true → by_key (insert_old v us) ≡ true
unfolding insert_old every by_key
insert_by_key v [] h = refl
insert_by_key v (u ∷ us) h = go (before v.key u.key) refl (insert_by_key v us (and_right_of (every (not_under u.key) us) (by_key us) h))
  where
    go : (b : Bool) → before v.key u.key ≡ b → by_key (insert_old v us) ≡ true → by_key (pick b (v ∷ u ∷ us) (u ∷ insert_old v us)) ≡ true
    go true p ih =
        rw (
          before_not v.key u.key p,
          under_mono v.key u.key (before_not v.key u.key p) us (and_left_of (every (not_under u.key) us) (by_key us) h),
        ) h
    go false p ih = rw (insert_every (not_under u.key) v us, p, and_left_of (every (not_under u.key) us) (by_key us) h) ih

pub sort_by_key : (vs : List Version) → by_key (sort vs) ≡ true
unfolding sort by_key
sort_by_key [] = refl
sort_by_key (v ∷ vs) = insert_by_key v (sort vs) (sort_by_key vs)

pub lookup_absent : (k : List ℕ) (s : ℕ) (us : List Version) → every (behind k) us ≡ true → lookup us k s ≡ []
unfolding lookup every
lookup_absent k s [] h = refl
lookup_absent k s (u ∷ us) h =
    rw (before_apart' k u.key (and_left_of (before k u.key) _ h)) (lookup_absent k s us (and_right_of (before k u.key) _ h))

pub lookup_insert : (v : Version) (us : List Version) (k : List ℕ) (s : ℕ) → by_key us ≡ true →
    lookup (insert_old v us) k s ≡ pick (none_of (lookup us k s)) (pick (same v.key k && ltb v.moment s) (v ∷ []) []) (lookup us k s)
unfolding lookup insert_old none_of by_key
lookup_insert v [] k s h = refl
lookup_insert v (u ∷ us) k s h =
    go (before v.key u.key) refl (lookup_insert v us k s (and_right_of (every (not_under u.key) us) (by_key us) h))
  where
    first : (a b : Bool) → same v.key k ≡ a → before v.key u.key ≡ true →
        pick (a && b) (v ∷ []) (lookup (u ∷ us) k s) ≡ pick (none_of (lookup (u ∷ us) k s)) (pick (a && b) (v ∷ []) []) (lookup (u ∷ us) k s)
    first true b e p = rw (lookup_absent k s (u ∷ us) (all_behind k u us (rw (same_eq v.key k e) at p) h)) refl
    first false b e p = pick_none (lookup (u ∷ us) k s)

    later : (c : Bool) (l one : List Version) → l ≡ pick (none_of (lookup us k s)) one (lookup us k s) →
        pick c (u ∷ []) l ≡ pick (none_of (pick c (u ∷ []) (lookup us k s))) one (pick c (u ∷ []) (lookup us k s))
    later true l one e = refl
    later false l one e = e

    go : (b : Bool) → before v.key u.key ≡ b →
        lookup (insert_old v us) k s ≡ pick (none_of (lookup us k s)) (pick (same v.key k && ltb v.moment s) (v ∷ []) []) (lookup us k s) →
        lookup (pick b (v ∷ u ∷ us) (u ∷ insert_old v us)) k s ≡
        pick (none_of (lookup (u ∷ us) k s)) (pick (same v.key k && ltb v.moment s) (v ∷ []) []) (lookup (u ∷ us) k s)
    go true p ih = first (same v.key k) (ltb v.moment s) refl p
    go false p ih = later (same u.key k && ltb u.moment s) _ _ ih

pub lookup_sort : (vs : List Version) (k : List ℕ) (s : ℕ) → lookup (sort vs) k s ≡ latest vs k s
unfolding sort lookup latest
lookup_sort [] k s = refl
lookup_sort (v ∷ vs) k s = lookup_insert v (sort vs) k s (sort_by_key vs) ∙ rw (lookup_sort vs k s) refl

pub lookup_stops : (us : List Version) (k : List ℕ) (s : ℕ) → by_key us ≡ true → lookup_stop us k s ≡ lookup us k s
unfolding lookup lookup_stop by_key
lookup_stops [] k s h = refl
lookup_stops (u ∷ us) k s h = go (before k u.key) refl (lookup_stops us k s (and_right_of (every (not_under u.key) us) (by_key us) h))
  where
    go : (b : Bool) → before k u.key ≡ b → lookup_stop us k s ≡ lookup us k s →
        pick b [] (pick (same u.key k && ltb u.moment s) (u ∷ []) (lookup_stop us k s)) ≡ lookup (u ∷ us) k s
    go true p ih = sym (lookup_absent k s (u ∷ us) (all_behind k u us p h))
    go false p ih = rw ih refl

pub lookup_right : LookupRight
lookup_right vs k s = (lookup_sort vs k s, lookup_stops (sort vs) k s (sort_by_key vs) ∙ lookup_sort vs k s)

-- the table's order: v is older than those of its key
abbrev older : Version → Version → Bool
older v u = or (not (same v.key u.key)) (ltb v.moment u.moment)

first_before : (k : List ℕ) (u w : Version) → before k u.key ≡ true → comes_first u w ≡ true → before k w.key ≡ true
first_before k u w h e = go (or_cases (before u.key w.key) _ e)
  where
    go : (before u.key w.key ≡ true) ⊎ ((same u.key w.key && ltb w.moment u.moment) ≡ true) → before k w.key ≡ true
    go (inl p) = before_trans k u.key w.key h p
    go (inr p) = rw (← same_eq u.key w.key (and_left_of (same u.key w.key) (ltb w.moment u.moment) p)) h

insert_in_order : (v : Version) (us : List Version) → every (older v) us ≡ true → in_order us ≡ true → in_order (insert_old v us) ≡ true
unfolding insert_old every in_order
insert_in_order v [] n h = refl
insert_in_order v (u ∷ us) n h =
    go (order v.key u.key)
    (insert_in_order v us (and_right_of (older v u) (every (older v) us) n) (and_right_of (every (comes_first u) us) (in_order us) h))
  where
    go : Order v.key u.key → in_order (insert_old v us) ≡ true → in_order (pick (before v.key u.key) (v ∷ u ∷ us) (u ∷ insert_old v us)) ≡ true
    go (before_it p q r) ih =
        rw (
          p,
          p,
          every_mono (comes_first u) (comes_first v) (λ w e. rw (first_before v.key u w p e) refl) us
              (and_left_of (every (comes_first u) us) (in_order us) h),
        ) h
    go (same_as e p q r) ih =
        rw (
          p,
          insert_every (comes_first u) v us,
          q,
          same_sym u.key v.key,
          r,
          rw r at (and_left_of (older v u) (every (older v) us) n),
          and_left_of (every (comes_first u) us) (in_order us) h,
        ) ih
    go (behind_it p q r) ih =
        rw (p, insert_every (comes_first u) v us, q, and_left_of (every (comes_first u) us) (in_order us) h) ih

older_there : (v u : Version) → (leb v.moment u.moment && not (same v.key u.key && eqb v.moment u.moment)) ≡ true → older v u ≡ true
older_there v u e =
    go (same v.key u.key) (eqb v.moment u.moment) refl (leb-true _ _ (and_left_of (leb v.moment u.moment) _ e)) (and_right_of (leb v.moment u.moment) _ e)
  where
    go : (a b : Bool) → eqb v.moment u.moment ≡ b → v.moment ≤ u.moment → not (a && b) ≡ true → or (not a) (ltb v.moment u.moment) ≡ true
    go true true q h e = clash true refl (sym e)
    go true false q h e = lt-ltb v.moment u.moment (omega (arith, eqb_apart v.moment u.moment q))
    go false b q h e = refl

pub sort_orders : SortOrders
unfolding sort in_order rising
sort_orders [] r = refl
sort_orders (v ∷ vs) r =
    insert_in_order v (sort vs)
    (sort_every (older v) vs ∙ every_mono (not_later v) (older v) (older_there v) vs (and_left_of (every (not_later v) vs) (rising vs) r))
    (sort_orders vs (and_right_of (every (not_later v) vs) (rising vs) r))
