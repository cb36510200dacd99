-- A write that is not refused rises: its moment is not below the last, and its key was not written at it.
use Rattle.std.proofs.Common.{◌≡◌, ℕ, ◌≤◌, Bool, true, false, not, ◌&&◌, eqb, ltb, leb, List, [], ◌∷◌, ◌++◌, refl, ap, arith, ltb-false, ltb-true, le-ltb, le-leb}
use Rattle.value.specs.Versions.{pick, every, any, same, Version, kept}
use Rattle.value.specs.Rising.{rising, last_moment}
use Rattle.value.proofs.TestLaws.{and_left_of, and_right_of, or_left_no, or_right_no, every_append}

-- the tests by name
abbrev pub written_at : List ℕ → ℕ → Version → Bool
written_at k m v = same v.key k && eqb v.moment m

abbrev no_later : Version → Version → Bool
no_later v u = leb u.moment v.moment && not (same u.key v.key && eqb u.moment v.moment)

abbrev not_later : Version → Version → Bool
not_later u v = leb u.moment v.moment && not (same u.key v.key && eqb u.moment v.moment)

last_least : (v : Version) (vs : List Version) → (v.moment ≤ last_moment (v ∷ vs)) × (last_moment vs ≤ last_moment (v ∷ vs))
unfolding last_moment
last_least v vs = go (ltb v.moment (last_moment vs)) refl
  where
    go : (b : Bool) → ltb v.moment (last_moment vs) ≡ b → (v.moment ≤ pick b (last_moment vs) v.moment) × (last_moment vs ≤ pick b (last_moment vs) v.moment)
    go true e = let l = ltb-true v.moment (last_moment vs) e in (omega arith, omega arith)
    go false e = let l = ltb-false v.moment (last_moment vs) e in (omega arith, omega arith)

no_later_all : (v : Version) (us : List Version) → last_moment us ≤ v.moment → any (written_at v.key v.moment) us ≡ false → every (no_later v) us ≡ true
unfolding any every
no_later_all v [] h e = refl
no_later_all v (u ∷ us) h e =
    let (a, b) = last_least u us in
    rw (le-leb u.moment v.moment (omega arith), or_left_no (written_at v.key v.moment u) _ e)
    (no_later_all v us (omega arith) (or_right_no (written_at v.key v.moment u) _ e))

rising_push : (vs : List Version) (v : Version) → rising vs ≡ true → every (no_later v) vs ≡ true → rising (vs ++ v ∷ []) ≡ true
unfolding rising every
rising_push [] v r h = refl
rising_push (u ∷ us) v r h =
    rw (every_append (not_later u) us (v ∷ []) (and_left_of (every (not_later u) us) (rising us) r) (one (and_left_of (no_later v u) (every (no_later v) us) h)))
    (rising_push us v (and_right_of (every (not_later u) us) (rising us) r) (and_right_of (no_later v u) (every (no_later v) us) h))
  where
    one : no_later v u ≡ true → every (not_later u) (v ∷ []) ≡ true
    one e = rw e refl

pub write_rises : (vs : List Version) (v : Version) → rising vs ≡ true → last_moment vs ≤ v.moment → any (written_at v.key v.moment) vs ≡ false → rising (vs ++ v ∷ []) ≡ true
write_rises vs v r h e = rising_push vs v r (no_later_all v vs h e)

pub last_push : (vs : List Version) (v : Version) → last_moment vs ≤ v.moment → last_moment (vs ++ v ∷ []) ≡ v.moment
unfolding last_moment
last_push [] v h = rw (le-ltb v.moment 0 (omega arith)) refl
last_push (u ∷ us) v h = let (a, b) = last_least u us in let ih = last_push us v (omega arith) in rw ih (go (ltb u.moment v.moment) refl)
  where
    go : (b : Bool) → ltb u.moment v.moment ≡ b → pick b v.moment u.moment ≡ v.moment
    go true e = refl
    go false e = let l = ltb-false u.moment v.moment e in let (a, b) = last_least u us in omega arith

-- with no moment below which nobody asks nothing is forgotten
pub kept_all : (vs : List Version) → kept 0 vs ≡ vs
unfolding kept
kept_all [] = refl
kept_all (v ∷ vs) = rw (le-ltb v.moment 0 (omega arith)) (ap (λ l. v ∷ l) (kept_all vs))
