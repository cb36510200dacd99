-- A walk for the newest: it is a walk that shows, over versions none of which is gone. The mark of an erasure is moved into the value, where it
-- plays no part, and read back there.
use Rattle.std.proofs.Common.{◌≡◌, ℕ, Bool, true, false, ◌&&◌, ltb, List, [], ◌∷◌, ◌++◌, sym, refl, ap, ◌∙◌, ap₂}
use Rattle.value.specs.Versions.{pick, every, each, those, none_of, same, before, Version, version, latest, living, seen_of, all_keys, insert_key}
use Rattle.value.specs.Sorted.{insert_old, sort, latest_of}
use Rattle.merge.specs.declared.stream.Passed.{Passed}
use Rattle.merge.specs.Stream.{newest, shows, next, walked, begun, short, WalkNewest}
use Rattle.merge.proofs.WalkLaws.{show_all}

abbrev marked : Version → Version
marked v = version v.key v.moment false (pick v.gone 1 0 ∷ v.value)

marked_apart : (v u : Version) → marked v ≡ marked u → v ≡ u
marked_apart v u e =
    let k : v.key ≡ u.key = ap (λ w. w.key) e in
    let m : v.moment ≡ u.moment = ap (λ w. w.moment) e in
    let l : pick v.gone 1 0 ∷ v.value ≡ pick u.gone 1 0 ∷ u.value = ap (λ w. w.value) e in
    let g : v.gone ≡ u.gone = go v.gone u.gone (cc) in
    let x : v.value ≡ u.value = cc in
    λ i. version (k i) (m i) (g i) (x i)
  where
    go : (a b : Bool) → ◌≡◌ {A = ℕ} (pick a 1 0) (pick b 1 0) → a ≡ b
    go true true e = refl
    go true false e = cc
    go false true e = cc
    go false false e = refl

each_apart : (xs ys : List Version) → each marked xs ≡ each marked ys → xs ≡ ys
unfolding each
each_apart [] [] e = refl
each_apart [] (y ∷ ys) e = cc
each_apart (x ∷ xs) [] e = cc
each_apart (x ∷ xs) (y ∷ ys) e =
    let h : marked x ≡ marked y = cc in
    let t : each marked xs ≡ each marked ys = cc in
    ap₂ ◌∷◌ (marked_apart x y h) (each_apart xs ys t)

each_append : (xs ys : List Version) → each marked (xs ++ ys) ≡ each marked xs ++ each marked ys
unfolding each
each_append [] ys = refl
each_append (x ∷ xs) ys = ap (λ l. marked x ∷ l) (each_append xs ys)

each_pick : (b : Bool) (xs ys : List Version) → each marked (pick b xs ys) ≡ pick b (each marked xs) (each marked ys)
each_pick true xs ys = refl
each_pick false xs ys = refl

-- keys and moments are as they were
insert_marked : (v : Version) (vs : List Version) → each marked (insert_old v vs) ≡ insert_old (marked v) (each marked vs)
unfolding each insert_old
insert_marked v [] = refl
insert_marked v (u ∷ us) = each_pick (before v.key u.key) _ _ ∙ ap (λ l. pick (before v.key u.key) (marked v ∷ marked u ∷ each marked us) (marked u ∷ l)) (insert_marked v us)

sort_marked : (vs : List Version) → each marked (sort vs) ≡ sort (each marked vs)
unfolding each sort
sort_marked [] = refl
sort_marked (v ∷ vs) = insert_marked v (sort vs) ∙ ap (insert_old (marked v)) (sort_marked vs)

keys_marked : (vs : List Version) → all_keys (each marked vs) ≡ all_keys vs
unfolding each all_keys
keys_marked [] = refl
keys_marked (v ∷ vs) = ap (insert_key v.key) (keys_marked vs)

none_marked : (vs : List Version) → none_of (each marked vs) ≡ none_of vs
unfolding each none_of
none_marked [] = refl
none_marked (v ∷ vs) = refl

latest_marked : (vs : List Version) (k : List ℕ) (s : ℕ) → latest (each marked vs) k s ≡ each marked (latest vs k s)
unfolding each latest
latest_marked [] k s = refl
latest_marked (v ∷ vs) k s =
    rw (latest_marked vs k s, none_marked (latest vs k s)) (sym (each_pick (none_of (latest vs k s)) _ _
    ∙ ap (λ l. pick (none_of (latest vs k s)) l (each marked (latest vs k s))) (each_pick (same v.key k && ltb v.moment s) (v ∷ []) [])))

living_marked : (vs : List Version) → living (each marked vs) ≡ each marked vs
unfolding each those
living_marked [] = refl
living_marked (v ∷ vs) = ap (λ l. marked v ∷ l) (living_marked vs)

seen_marked : (vs : List Version) (s : ℕ) (ks : List (List ℕ)) → seen_of (each marked vs) s ks ≡ each marked (latest_of vs s ks)
unfolding each seen_of latest_of
seen_marked vs s [] = refl
seen_marked vs s (k ∷ ks) =
    ap₂ ◌++◌ (ap living (latest_marked vs k s) ∙ living_marked (latest vs k s)) (seen_marked vs s ks) ∙ sym (each_append (latest vs k s) (latest_of vs s ks))

walk_marked : (s : ℕ) (p : Passed) (vs : List Version) → each marked (walked (newest s) s p vs) ≡ walked (shows s) s p (each marked vs)
unfolding each walked
walk_marked s p [] = refl
walk_marked s p (v ∷ vs) = each_pick (newest s p v) _ _ ∙ ap (λ l. pick (newest s p v) (marked v ∷ l) l) (walk_marked s (next s p v) vs)

short_marked : (vs : List Version) → every short (each marked vs) ≡ every short vs
unfolding each every
short_marked [] = refl
short_marked (v ∷ vs) = ap (λ b. short v && b) (short_marked vs)

pub walk_newest : WalkNewest
walk_newest s vs h =
    each_apart (walked (newest s) s begun (sort vs)) (latest_of vs s (all_keys vs))
    (walk_marked s begun (sort vs) ∙ ap (walked (shows s) s begun) (sort_marked vs) ∙ show_all s (each marked vs) (short_marked vs ∙ h)
    ∙ ap (seen_of (each marked vs) s) (keys_marked vs) ∙ seen_marked vs s (all_keys vs))
