-- What's seen: the latest of two runs, and a write.
use Rattle.std.proofs.Common.{◌≡◌, ℕ, Bool, true, false, ◌&&◌, eqb, ltb, List, [], ◌∷◌, ◌++◌, refl, ap, ◌∙◌, le-ltb, lt-ltb, eq-eqb}
use Rattle.value.specs.Versions.{pick, or, any, those, none_of, same, Version, latest}
use Rattle.value.specs.Answers.{LaterFirst, WriteSeen}
use Rattle.value.proofs.TestLaws.{and_false_right, or_true_right}
use Rattle.value.proofs.KeyLaws.{same_refl, same_sym}

pub pick_none : {A : Type 0} (l : List A) → l ≡ pick (none_of l) [] l
unfolding none_of
pick_none [] = refl
pick_none (x ∷ xs) = refl

pick_pick : {A : Type 0} (l m one : List A) →
    pick (none_of (pick (none_of l) m l)) one (pick (none_of l) m l) ≡ pick (none_of l) (pick (none_of m) one m) l
unfolding none_of
pick_pick [] m one = refl
pick_pick (x ∷ xs) m one = refl

pub later_first : LaterFirst
unfolding latest
later_first [] us k s = pick_none (latest us k s)
later_first (v ∷ vs) us k s = rw (later_first vs us k s) (pick_pick (latest us k s) (latest vs k s) _)

pub latest_one : (v : Version) (k : List ℕ) (s : ℕ) → latest (v ∷ []) k s ≡ pick (same v.key k && ltb v.moment s) (v ∷ []) []
unfolding latest none_of
latest_one v k s = refl

pub latest_push : (vs : List Version) (v : Version) (k : List ℕ) (s : ℕ) →
    latest (vs ++ v ∷ []) k s ≡ pick (same v.key k && ltb v.moment s) (v ∷ []) (latest vs k s)
unfolding none_of
latest_push vs v k s = later_first vs (v ∷ []) k s ∙ rw (latest_one v k s) (go (same v.key k && ltb v.moment s))
  where
    go : (b : Bool) → pick (none_of (pick b (v ∷ []) [])) (latest vs k s) (pick b (v ∷ []) []) ≡ pick b (v ∷ []) (latest vs k s)
    go true = refl
    go false = refl

pub write_seen : WriteSeen
unfolding those
write_seen vs v k s = (
  λ h. rw (latest_push vs v k s, le-ltb v.moment s h, and_false_right) refl,
  λ h g. rw (latest_push vs v v.key s, same_refl v.key, lt-ltb v.moment s h, g) refl,
  λ h g. rw (latest_push vs v v.key s, same_refl v.key, lt-ltb v.moment s h, g) refl,
  λ h. rw (latest_push vs v k s, same_sym v.key k, h) refl,
)

pub latest_any : (vs : List Version) (k : List ℕ) (s : ℕ) (v : Version) → latest vs k s ≡ v ∷ [] →
    any (λ u. same u.key k && eqb u.moment v.moment) vs ≡ true
unfolding latest any none_of
latest_any [] k s v e = cc
latest_any (u ∷ vs) k s v e = go (latest vs k s) (same u.key k) (ltb u.moment s) _ e (latest_any vs k s v)
  where
    go : (l : List Version) (a b r : Bool) → pick (none_of l) (pick (a && b) (u ∷ []) []) l ≡ v ∷ [] → (l ≡ v ∷ [] → r ≡ true) →
        or (a && eqb u.moment v.moment) r ≡ true
    go [] true true r e h = let q : u ≡ v = cc in rw (eq-eqb u.moment v.moment (ap (λ w. w.moment) q)) refl
    go [] true false r e h = cc
    go [] false b r e h = cc
    go (x ∷ xs) a b r e h = rw (h e) (or_true_right (a && eqb u.moment v.moment))
