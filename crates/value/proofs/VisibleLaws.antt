-- All that's seen is a walk over the table.
use Rattle.std.proofs.Common.{◌≡◌, ℕ, Bool, true, false, not, ◌&&◌, ltb, List, [], ◌∷◌, sym, refl, ap, ◌∙◌, ap₂}
use Rattle.value.specs.Versions.{pick, or, every, those, same, before, Version, living, all_seen, in_range, from_key, up_to_key}
use Rattle.value.specs.Answers.{ordered}
use Rattle.value.specs.Sorted.{sort, not_under, by_key, lookup, passed, visible_from, visible, seek, until, VisibleRight}
use borrow.Author.Tests.{not-true}
use Rattle.value.proofs.TestLaws.{clash, and_left_of, and_right_of, and_false_right, or_true_right, every_mono, every_those, those_none, those_all, pick_same}
use Rattle.value.proofs.KeyLaws.{same_refl, same_sym, same_eq, before_trans, le_le, before_apart', Order, before_it, same_as, behind_it, order}
use Rattle.value.proofs.SeenLaws.{keyed, behind, range_right}
use Rattle.value.proofs.SortLaws.{sort_by_key, all_behind, lookup_absent, lookup_sort}
use Rattle.value.proofs.ForgettingLaws.{from_nil}

-- two lists in order, each key once, are one if of each key they have the same
pub ordered_ext : (xs ys : List Version) → ordered xs ≡ true → ordered ys ≡ true →
    ((k : List ℕ) → those (keyed k) xs ≡ those (keyed k) ys) → xs ≡ ys
unfolding ordered those every
ordered_ext [] [] p q e = refl
ordered_ext [] (y ∷ ys) p q e = let h : [] ≡ y ∷ those (keyed y.key) ys = rw (same_refl y.key) at (e y.key) in cc
ordered_ext (x ∷ xs) [] p q e = let h : x ∷ those (keyed x.key) xs ≡ [] = rw (same_refl x.key) at (e x.key) in cc
ordered_ext (x ∷ xs) (y ∷ ys) p q e =
    go (order x.key y.key) (ordered_ext xs ys (and_right_of (every (behind x.key) xs) (ordered xs) p) (and_right_of (every (behind y.key) ys) (ordered ys) q))
  where
    none : (k : List ℕ) (z : Version) (zs : List Version) → z.key ≡ k → ordered (z ∷ zs) ≡ true → those (keyed k) zs ≡ []
    none k z zs h o =
        those_none (behind z.key) (keyed k) (λ w b. before_apart' k w.key (rw h at b)) zs (and_left_of (every (behind z.key) zs) (ordered zs) o)

    under : (z : Version) (k : List ℕ) (zs : List Version) → before k z.key ≡ true → ordered (z ∷ zs) ≡ true → those (keyed k) (z ∷ zs) ≡ []
    under z k zs h o =
        those_none (behind k) (keyed k) (λ w b. before_apart' k w.key b) (z ∷ zs)
        (rw h (every_mono (behind z.key) (behind k) (λ w b. before_trans k z.key w.key h b) zs (and_left_of (every (behind z.key) zs) (ordered zs) o)))

    tails : x.key ≡ y.key → (k : List ℕ) (a : Bool) → same x.key k ≡ a → those (keyed k) xs ≡ those (keyed k) ys
    tails h k true r =
        none k x xs (same_eq x.key k r) p ∙ sym (none k y ys (sym h ∙ same_eq x.key k r) q)
    tails h k false r = rw (r, rw h at r) at (e k)

    go : Order x.key y.key → (((k : List ℕ) → those (keyed k) xs ≡ those (keyed k) ys) → xs ≡ ys) → x ∷ xs ≡ y ∷ ys
    go (before_it a b c) ih =
        let h : x ∷ those (keyed x.key) xs ≡ those (keyed x.key) (y ∷ ys) = rw (same_refl x.key) at (e x.key) in
        let z : those (keyed x.key) (y ∷ ys) ≡ [] = under y x.key ys a q in
        cc
    go (same_as a b c d) ih =
        let h : x ∷ those (keyed x.key) xs ≡ y ∷ those (keyed x.key) ys = rw (same_refl x.key, same_sym y.key x.key, d) at (e x.key) in
        let t : xs ≡ ys = ih (λ k. tails a k (same x.key k) refl) in
        let z : x ≡ y = cc in
        ap₂ ◌∷◌ z t
    go (behind_it a b c) ih =
        let h : those (keyed y.key) (x ∷ xs) ≡ y ∷ those (keyed y.key) ys = rw (same_refl y.key) at (e y.key) in
        let z : those (keyed y.key) (x ∷ xs) ≡ [] = under x y.key xs b p in
        cc

visible_every : (f : Version → Bool) (s : ℕ) (k : List ℕ) (p : Bool) (us : List Version) → every f us ≡ true → every f (visible_from s k p us) ≡ true
unfolding every visible_from
visible_every f s k p [] h = refl
visible_every f s k p (u ∷ us) h =
    go (ltb u.moment s && not (or u.gone (passed k p u))) _ (visible_every f s u.key _ us (and_right_of (f u) (every f us) h))
  where
    go : (b : Bool) (l : List Version) → every f l ≡ true → every f (pick b (u ∷ l) l) ≡ true
    go true l e = rw (and_left_of (f u) (every f us) h) e
    go false l e = e

-- once one of a key was passed, only greater keys are seen
visible_behind : (s : ℕ) (k : List ℕ) (us : List Version) → by_key us ≡ true → every (not_under k) us ≡ true → every (behind k) (visible_from s k true us) ≡ true
unfolding every by_key visible_from
visible_behind s k [] b n = refl
visible_behind s k (u ∷ us) b n = go (order k u.key) (visible_behind s k us (and_right_of (every (not_under u.key) us) (by_key us) b) (and_right_of (not_under k u) _ n))
  where
    go : Order k u.key → every (behind k) (visible_from s k true us) ≡ true → every (behind k) (visible_from s k true (u ∷ us)) ≡ true
    go (before_it x y z) ih = visible_every (behind k) s k true (u ∷ us) (all_behind k u us x b)
    go (same_as x _ _ y) ih = rw (y, or_true_right u.gone, and_false_right (ltb u.moment s), ← x) ih
    go (behind_it x y z) ih = clash (before u.key k) y (not-true _ (and_left_of (not_under k u) _ n))

visible_ordered : (s : ℕ) (k : List ℕ) (p : Bool) (us : List Version) → by_key us ≡ true → ordered (visible_from s k p us) ≡ true
unfolding ordered by_key visible_from
visible_ordered s k p [] b = refl
visible_ordered s k p (u ∷ us) b =
    go (ltb u.moment s) u.gone (passed k p u)
    (visible_behind s u.key us (and_right_of (every (not_under u.key) us) (by_key us) b) (and_left_of (every (not_under u.key) us) (by_key us) b))
    (λ q. visible_ordered s u.key q us (and_right_of (every (not_under u.key) us) (by_key us) b))
  where
    go : (m g a : Bool) → every (behind u.key) (visible_from s u.key true us) ≡ true → ((q : Bool) → ordered (visible_from s u.key q us) ≡ true) →
        ordered (pick (m && not (or g a)) (u ∷ visible_from s u.key (or a m) us) (visible_from s u.key (or a m) us)) ≡ true
    go true false false e ih = rw e (ih true)
    go true false true e ih = ih true
    go true true a e ih = ih (or a true)
    go false g a e ih = ih (or a false)

visible_those : (s : ℕ) (k j : List ℕ) (p : Bool) (us : List Version) → by_key us ≡ true → every (not_under j) us ≡ true →
    those (keyed k) (visible_from s j p us) ≡ pick (p && same j k) [] (living (lookup us k s))
unfolding those by_key visible_from lookup every
visible_those s k j p [] b n = pick_same (p && same j k) []
visible_those s k j p (u ∷ us) b n =
    go (same u.key k) refl
    (visible_those s k u.key (or (passed j p u) (ltb u.moment s)) us (and_right_of (every (not_under u.key) us) (by_key us) b)
    (and_left_of (every (not_under u.key) us) (by_key us) b))
  where
    N : List Version
    N = visible_from s u.key (or (passed j p u) (ltb u.moment s)) us

    mine : (a m g : Bool) → u.gone ≡ g → same u.key k ≡ true → (those (keyed k) N ≡ pick (or a m && true) [] (living (lookup us k s))) →
        those (keyed k) (pick (m && not (or g a)) (u ∷ N) N) ≡ pick a [] (living (pick (true && m) (u ∷ []) (lookup us k s)))
    mine true true true h r e = e
    mine true true false h r e = e
    mine true false g h r e = e
    mine false true true h r e = rw h e
    mine false true false h r e = rw (h, r, e) refl
    mine false false g h r e = e

    other : (d : Bool) → same u.key k ≡ false → those (keyed k) (pick d (u ∷ N) N) ≡ those (keyed k) N
    other true r = rw r refl
    other false r = refl

    past : (a : Bool) → same j k ≡ a → same u.key k ≡ false → living (lookup us k s) ≡ pick (p && a) [] (living (lookup us k s))
    past false q r = rw (and_false_right p) refl
    past true q r = rw (lookup_absent k s us (and_right_of (before k u.key) _ (all_behind k u us above b))) (pick_same (p && true) [])
      where
        above : before k u.key ≡ true
        above = at_least (order k u.key)
          where
            at_least : Order k u.key → before k u.key ≡ true
            at_least (before_it x y z) = x
            at_least (same_as x y z w) = clash (same u.key k) (same_sym u.key k ∙ w) r
            at_least (behind_it x y z) = clash (before u.key j) (rw (same_eq j k q) y) (not-true _ (and_left_of (not_under j u) (every (not_under j) us) n))

    go : (c : Bool) → same u.key k ≡ c → (those (keyed k) N ≡ pick (or (passed j p u) (ltb u.moment s) && c) [] (living (lookup us k s))) →
        those (keyed k) (visible_from s j p (u ∷ us)) ≡ pick (p && same j k) [] (living (pick (c && ltb u.moment s) (u ∷ []) (lookup us k s)))
    go true r ih =
        mine (passed j p u) (ltb u.moment s) u.gone refl r ih
        ∙ ap (λ a. pick (p && a) [] (living (pick (ltb u.moment s) (u ∷ []) (lookup us k s)))) (ap (same j) (same_eq u.key k r))
    go false r ih = other _ r ∙ ih ∙ rw (and_false_right (or (passed j p u) (ltb u.moment s))) (past (same j k) refl r)

-- of a table what's seen of a key is what's looked up
pub visible_keyed : (s : ℕ) (k : List ℕ) (us : List Version) → by_key us ≡ true → those (keyed k) (visible s us) ≡ living (lookup us k s)
visible_keyed s k us b = visible_those s k [] false us b (from_nil us)

pub visible_all : (vs : List Version) (s : ℕ) → visible s (sort vs) ≡ all_seen vs s
visible_all vs s =
    ordered_ext (visible s (sort vs)) (all_seen vs s) (visible_ordered s [] false (sort vs) (sort_by_key vs)) (range_right vs s []).0
    (λ k. visible_keyed s k (sort vs) (sort_by_key vs) ∙ ap living (lookup_sort vs k s) ∙ sym (range_right vs s k).1)

-- A RANGE OF KEYS: whole keys are taken or left
abbrev of_keys : (List ℕ → Bool) → Version → Bool
of_keys g v = g v.key

pub those_those : {A : Type 0} (f g : A → Bool) (xs : List A) → those f (those g xs) ≡ those (λ x. g x && f x) xs
unfolding those
those_those f g [] = refl
those_those f g (x ∷ xs) = go (g x) (f x) refl (those_those f g xs)
  where
    go : (a b : Bool) → f x ≡ b → those f (those g xs) ≡ those (λ y. g y && f y) xs →
        those f (pick a (x ∷ those g xs) (those g xs)) ≡ pick (a && b) (x ∷ those (λ y. g y && f y) xs) (those (λ y. g y && f y) xs)
    go true true r ih = rw (r, ih) refl
    go true false r ih = rw (r, ih) refl
    go false b r ih = ih

pub those_by_key : (f : Version → Bool) (us : List Version) → by_key us ≡ true → by_key (those f us) ≡ true
unfolding those by_key
those_by_key f [] b = refl
those_by_key f (u ∷ us) b = go (f u) (those_by_key f us (and_right_of (every (not_under u.key) us) (by_key us) b))
  where
    go : (a : Bool) → by_key (those f us) ≡ true → by_key (pick a (u ∷ those f us) (those f us)) ≡ true
    go true ih = rw (every_those (not_under u.key) f us (and_left_of (every (not_under u.key) us) (by_key us) b)) ih
    go false ih = ih

those_ordered : (f : Version → Bool) (us : List Version) → ordered us ≡ true → ordered (those f us) ≡ true
unfolding those ordered
those_ordered f [] b = refl
those_ordered f (u ∷ us) b = go (f u) (those_ordered f us (and_right_of (every (behind u.key) us) (ordered us) b))
  where
    go : (a : Bool) → ordered (those f us) ≡ true → ordered (pick a (u ∷ those f us) (those f us)) ≡ true
    go true ih = rw (every_those (behind u.key) f us (and_left_of (every (behind u.key) us) (ordered us) b)) ih
    go false ih = ih

lookup_of_keys : (g : List ℕ → Bool) (k : List ℕ) (s : ℕ) (us : List Version) → lookup (those (of_keys g) us) k s ≡ pick (g k) (lookup us k s) []
unfolding those lookup
lookup_of_keys g k s [] = pick_same (g k) []
lookup_of_keys g k s (u ∷ us) = go (same u.key k) refl (ltb u.moment s) (g u.key) refl (lookup_of_keys g k s us)
  where
    go : (a : Bool) → same u.key k ≡ a → (m c : Bool) → g u.key ≡ c → lookup (those (of_keys g) us) k s ≡ pick (g k) (lookup us k s) [] →
        lookup (pick c (u ∷ those (of_keys g) us) (those (of_keys g) us)) k s ≡ pick (g k) (pick (a && ltb u.moment s) (u ∷ []) (lookup us k s)) []
    go true p m true q ih = rw (p, ih, ← ap g (same_eq u.key k p), q) refl
    go true p m false q ih = rw (ih, ← ap g (same_eq u.key k p), q) refl
    go false p m true q ih = rw (p, ih) refl
    go false p m false q ih = ih

keyed_of_keys : (g : List ℕ → Bool) (k : List ℕ) (us : List Version) → those (keyed k) (those (of_keys g) us) ≡ pick (g k) (those (keyed k) us) []
unfolding those
keyed_of_keys g k [] = pick_same (g k) []
keyed_of_keys g k (u ∷ us) = go (same u.key k) refl (g u.key) refl (keyed_of_keys g k us)
  where
    go : (a : Bool) → same u.key k ≡ a → (c : Bool) → g u.key ≡ c → those (keyed k) (those (of_keys g) us) ≡ pick (g k) (those (keyed k) us) [] →
        those (keyed k) (pick c (u ∷ those (of_keys g) us) (those (of_keys g) us)) ≡ pick (g k) (pick a (u ∷ those (keyed k) us) (those (keyed k) us)) []
    go true p true q ih = rw (p, ih, ← ap g (same_eq u.key k p), q) refl
    go true p false q ih = rw (ih, ← ap g (same_eq u.key k p), q) refl
    go false p true q ih = rw (p, ih) refl
    go false p false q ih = ih

pub visible_of_keys : (g : List ℕ → Bool) (s : ℕ) (us : List Version) → by_key us ≡ true → visible s (those (of_keys g) us) ≡ those (of_keys g) (visible s us)
unfolding those
visible_of_keys g s us b =
    ordered_ext (visible s (those (of_keys g) us)) (those (of_keys g) (visible s us))
    (visible_ordered s [] false (those (of_keys g) us) (those_by_key (of_keys g) us b))
    (those_ordered (of_keys g) (visible s us) (visible_ordered s [] false us b))
    (λ k. visible_keyed s k (those (of_keys g) us) (those_by_key (of_keys g) us b) ∙ ap living (lookup_of_keys g k s us) ∙ go k (g k)
    ∙ ap (λ l. pick (g k) l []) (sym (visible_keyed s k us b)) ∙ sym (keyed_of_keys g k (visible s us)))
  where
    go : (k : List ℕ) (c : Bool) → living (pick c (lookup us k s) []) ≡ pick c (living (lookup us k s)) []
    go k true = refl
    go k false = refl

seek_those : (a : List ℕ) (us : List Version) → by_key us ≡ true → seek a us ≡ those (of_keys (from_key a)) us
unfolding seek those by_key from_key
seek_those a [] b = refl
seek_those a (u ∷ us) b = go (before u.key a) refl (seek_those a us (and_right_of (every (not_under u.key) us) (by_key us) b))
  where
    go : (c : Bool) → before u.key a ≡ c → seek a us ≡ those (of_keys (from_key a)) us →
        pick c (seek a us) (u ∷ us) ≡ pick (not c) (u ∷ those (of_keys (from_key a)) us) (those (of_keys (from_key a)) us)
    go true p ih = ih
    go false p ih =
        rw (those_all (not_under u.key) (of_keys (from_key a))
        (λ w e. rw (le_le a u.key w.key p (not-true (before w.key u.key) e)) refl) us (and_left_of (every (not_under u.key) us) (by_key us) b)) refl

up_to_under : (b : List (List ℕ)) (j k : List ℕ) → before k j ≡ false → up_to_key b j ≡ false → up_to_key b k ≡ false
unfolding up_to_key
up_to_under [] j k h e = e
up_to_under (b ∷ bs) j k h e = le_le b j k e h

until_those : (b : List (List ℕ)) (us : List Version) → by_key us ≡ true → until b us ≡ those (of_keys (up_to_key b)) us
unfolding until those by_key
until_those b [] h = refl
until_those b (u ∷ us) h = go (up_to_key b u.key) refl (until_those b us (and_right_of (every (not_under u.key) us) (by_key us) h))
  where
    go : (c : Bool) → up_to_key b u.key ≡ c → until b us ≡ those (of_keys (up_to_key b)) us →
        pick c (u ∷ until b us) [] ≡ pick c (u ∷ those (of_keys (up_to_key b)) us) (those (of_keys (up_to_key b)) us)
    go true p ih = ap (λ l. u ∷ l) ih
    go false p ih =
        sym (those_none (not_under u.key) (of_keys (up_to_key b))
        (λ w e. up_to_under b u.key w.key (not-true (before w.key u.key) e) p) us (and_left_of (every (not_under u.key) us) (by_key us) h))

pub visible_range : (vs : List Version) (s : ℕ) (a : List ℕ) (b : List (List ℕ)) → visible s (until b (seek a (sort vs))) ≡ in_range vs s a b
visible_range vs s a b =
    ap (λ l. visible s (until b l)) (seek_those a (sort vs) (sort_by_key vs))
    ∙ ap (visible s) (until_those b (those (of_keys (from_key a)) (sort vs)) (those_by_key _ (sort vs) (sort_by_key vs)) ∙ those_those _ _ (sort vs))
    ∙ visible_of_keys (λ k. from_key a k && up_to_key b k) s (sort vs) (sort_by_key vs)
    ∙ ap (those (λ v. from_key a v.key && up_to_key b v.key)) (visible_all vs s)

pub visible_right : VisibleRight
visible_right vs s = (visible_all vs s, visible_range vs s)
