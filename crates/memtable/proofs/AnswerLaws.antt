-- What a memtable that holds a list answers: the latest of a key, whether one was written at a moment, and the table of what came.
use Rattle.std.proofs.Common.{◌≡◌, ℕ, zero, suc, ◌+◌, ◌-◌, ◌≤◌, false, ◌&&◌, eqb, ltb, List, [], ◌∷◌, get_or, take, drop, sym, refl, ap, ◌∙◌, ap₂, inl, inr, add-one, arith}
use Rattle.std.proofs.lemmas.List.{drop_more, drop_all}
use Rattle.std.proofs.lemmas.Bool.{cases_lt, lt-ltb, le-ltb, ne_eqb}
use Rattle.value.specs.Versions.{pick, every, any, each, same, Version, latest, added_up}
use Rattle.value.specs.Sorted.{sort}
use Rattle.value.specs.Order.{OrderSays}
use Rattle.std.specs.declared.cmp.Ordering.{Ordering}
use Rattle.value.proofs.SortLaws.{sort_any, sort_every, sort_orders, lookup_right}
use Rattle.value.proofs.KeyLaws.{Order, before_it, same_as, behind_it, order}
use Rattle.memtable.specs.Arena.{version_at, moment_at, order_at}
use Rattle.memtable.specs.Memtable.{seek_place, if_same, found, at_moment, written_at}
use Rattle.memtable.specs.Holds.{encode_all, goes_before, as_list, EmptyRight, SizesSuffice, FindRight, WrittenRight, WalkRight, SeekRight}
use Rattle.memtable.proofs.KeyOrderLaws.{ordered}
use Rattle.memtable.proofs.SearchLaws.{stretch, stretch_within, first_of, lookup_first, is_at, last_at, any_last, seek_parts, seek_key}
use Rattle.memtable.proofs.HeldLaws.{sized, counts, there, order_there, seek_is}

pub empty_right : EmptyRight
unfolding encode_all sort each every added_up
empty_right index arena = record {
  counted = refl;
  weighed = refl;
  ended = refl;
  filled = refl;
  sorted = refl;
  stand = tt;
  fit = refl;
  light = omega arith;
}

pub sizes_suffice : SizesSuffice
sizes_suffice vs f w = let s = sized vs f in (omega (arith, s.count), omega (arith, s.used))

-- what the two tests say of the order of two keys
same_found : (k : List ℕ) (w : Version) (arena : List ℕ) (p : ℕ) (us : List Version) → w ≡ version_at arena p →
    each (version_at arena) (as_list (if_same (ordered w.key k) p)) ≡ first_of k (w ∷ us)
unfolding ordered each
same_found k w arena p us e = go (order w.key k)
  where
    go : Order w.key k → each (version_at arena) (as_list (if_same (ordered w.key k) p)) ≡ first_of k (w ∷ us)
    go (before_it a b c) = rw (a, c) refl
    go (same_as q a b c) = rw (a, c) (ap (λ x. x ∷ []) (sym e))
    go (behind_it a b c) = rw (a, c) refl

same_moment : (k : List ℕ) (m : ℕ) (w : Version) → at_moment (ordered w.key k) w.moment m ≡ is_at k m w
unfolding ordered
same_moment k m w = go (order w.key k)
  where
    go : Order w.key k → at_moment (ordered w.key k) w.moment m ≡ is_at k m w
    go (before_it a b c) = rw (a, c) refl
    go (same_as q a b c) = rw (a, c) refl
    go (behind_it a b c) = rw (a, c) refl

pub find_right : FindRight
unfolding found each
find_right index arena t vs k s h r b =
    let c = counts index arena t vs h in
    let i : ℕ = stretch (goes_before k s) (sort vs) in
    let e : seek_place t index arena k s ≡ i = seek_is index arena t vs k s h r b in
    let done : first_of k (drop i (sort vs)) ≡ latest vs k s = lookup_first (sort vs) k s ∙ (lookup_right vs k s).1 in
    rw (e, c.entered) (elim (cases_lt i t.versions) [
      | inr l ↦ rw (le-ltb i t.versions l) (sym (ap (first_of k) (drop_all i (sort vs) (omega (arith, c.sorted)))) ∙ done)
      | inl l ↦
          let x = there index arena t vs h i l in
          let d : Version = version_at arena 0 in
          rw (lt-ltb i t.versions l) (
          ap (λ o. each (version_at arena) (as_list (if_same o (get_or index i 0)))) (order_there index arena t vs k h b i l)
          ∙ same_found k (version_at arena (get_or index i 0)) arena (get_or index i 0) (drop (i + 1) (sort vs)) refl
          ∙ ap (λ w. first_of k (w ∷ drop (i + 1) (sort vs))) (sym (x.nth d))
          ∙ ap (first_of k) (sym (drop_more (sort vs) i d (omega (arith, c.sorted))))
          ∙ done)
    ])

pub written_right : WrittenRight
unfolding written_at version_at
written_right index arena t vs k m h r b =
    let c = counts index arena t vs h in
    let d : Version = version_at arena 0 in
    let e = seek_is index arena t vs k m h r b in
    let all : last_at k m (sort vs) (stretch (goes_before k m) (sort vs)) d ≡ any (λ v. same v.key k && eqb v.moment m) vs =
    any_last k m (sort vs) d (sort_orders vs r) ∙ sort_any (is_at k m) vs in
    rw e (go (stretch (goes_before k m) (sort vs)) (omega (arith, c.sorted, stretch_within (goes_before k m) (sort vs))) all)
  where
    go : (i : ℕ) → i ≤ t.versions → last_at k m (sort vs) i (version_at arena 0) ≡ any (λ v. same v.key k && eqb v.moment m) vs →
        pick (eqb i 0) false (at_moment (order_at arena (get_or index (i - 1) 0) k) (moment_at arena (get_or index (i - 1) 0)) m) ≡ any (λ v. same v.key k && eqb v.moment m) vs
    go zero l a = a
    go (suc i) l a =
        let z : suc i - 1 ≡ i = omega arith in
        let n : eqb (suc i) 0 ≡ false = ne_eqb (suc i) 0 (omega arith) in
        let x = there index arena t vs h i (omega arith) in
        rw (n, z) (
        ap (λ o. at_moment o (moment_at arena (get_or index i 0)) m) (order_there index arena t vs k h b i (omega arith))
        ∙ same_moment k m (version_at arena (get_or index i 0))
        ∙ ap (is_at k m) (sym (x.nth (version_at arena 0)))
        ∙ a)

pub walk_right : WalkRight
unfolding OrderSays ordered
walk_right index arena t vs i h l =
    let c = counts index arena t vs h in
    let x = there index arena t vs h i l in
    let d : Version = version_at arena 0 in (
      drop_more (sort vs) i d (omega (arith, c.sorted)) ∙ ap₂ (λ w us. w ∷ us) (x.nth d) (ap (λ j. drop j (sort vs)) (add-one i)),
      λ k b. order_says (version_at arena (get_or index i 0)).key k (order_at arena (get_or index i 0) k) (order_there index arena t vs k h b i l),
    )
  where
    order_says : (a b : List ℕ) (o : Ordering) → o ≡ ordered a b → OrderSays a b o
    order_says a b o e = e

pub seek_right : SeekRight
seek_right index arena t vs k s h r b =
    let e = seek_is index arena t vs k s h r b in
    let p = seek_parts k s (sort vs) (sort_orders vs r) in (
      ap (λ i. take i (sort vs)) e ∙ p.0,
      ap (λ i. drop i (sort vs)) e ∙ p.1,
      λ m. ap (λ i. drop i (sort vs)) e ∙ seek_key k s (sort vs) (sort_every (λ v. ltb v.moment s) vs ∙ m),
    )
