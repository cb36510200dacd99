-- What's forgotten isn't missed.
use Rattle.std.proofs.Common.{◌≡◌, ℕ, ◌≤◌, Bool, true, false, not, ◌&&◌, eqb, ltb, leb, ◌⊎◌, List, [], ◌∷◌, sym, refl, ap, ◌∙◌, inl, inr, arith, ltb-false, ltb-true, le-ltb, lt-ltb, leb-true}
use Rattle.value.specs.Versions.{pick, or, any, those, none_of, same, Version, latest, living, seen, later_below, kept}
use Rattle.value.specs.Rising.{rising}
use Rattle.value.specs.Answers.{NotMissed, TwiceOnce}
use Rattle.value.proofs.TestLaws.{clash, and_false_right, and_left_of, and_right_of, or_true_right, or_right_no, or_cases, any_mono, every_not_any}
use Rattle.value.proofs.LatestLaws.{pick_none}
use Rattle.value.proofs.KeyLaws.{same_eq}

-- the tests that later_below and rising make, by name: a `rw` under a λ wants them written
abbrev pub below : List ℕ → ℕ → Version → Bool
below k t v = same v.key k && ltb v.moment t

abbrev pub not_later : Version → Version → Bool
not_later v u = leb v.moment u.moment && not (same v.key u.key && eqb v.moment u.moment)

-- one of another key changes nothing
pub latest_skip : (v : Version) (vs : List Version) (k : List ℕ) (s : ℕ) → same v.key k ≡ false → latest (v ∷ vs) k s ≡ latest vs k s
unfolding latest
latest_skip v vs k s e = rw e (sym (pick_none (latest vs k s)))

pub latest_cong : (v : Version) (us vs : List Version) (k : List ℕ) (s : ℕ) → latest us k s ≡ latest vs k s → latest (v ∷ us) k s ≡ latest (v ∷ vs) k s
unfolding latest
latest_cong v us vs k s e = rw e refl

-- there's a latest one if there's one at all
pub latest_none : (vs : List Version) (k : List ℕ) (s : ℕ) → none_of (latest vs k s) ≡ not (later_below vs k s)
unfolding latest later_below any none_of
latest_none [] k s = refl
latest_none (v ∷ vs) k s = go (latest vs k s) (same v.key k && ltb v.moment s) _ (latest_none vs k s)
  where
    go : (l : List Version) (b r : Bool) → none_of l ≡ not r → none_of (pick (none_of l) (pick b (v ∷ []) []) l) ≡ not (or b r)
    go [] true r e = refl
    go [] false r e = e
    go (x ∷ xs) true r e = refl
    go (x ∷ xs) false r e = e

-- of a key that has none below t everything is kept
pub latest_kept : (t s : ℕ) (k : List ℕ) (vs : List Version) → later_below vs k t ≡ false → latest (kept t vs) k s ≡ latest vs k s
unfolding kept later_below any
latest_kept t s k [] h = refl
latest_kept t s k (v ∷ vs) h =
    go (same v.key k) refl (ltb v.moment t) (or v.gone (later_below vs v.key t)) h (latest_kept t s k vs (or_right_no _ _ h))
  where
    go : (a : Bool) → same v.key k ≡ a → (b c : Bool) → or (a && b) (later_below vs k t) ≡ false → latest (kept t vs) k s ≡ latest vs k s →
        latest (pick (b && c) (kept t vs) (v ∷ kept t vs)) k s ≡ latest (v ∷ vs) k s
    go true p true c h ih = clash true refl h
    go true p false c h ih = latest_cong v (kept t vs) vs k s ih
    go false p false c h ih = latest_cong v (kept t vs) vs k s ih
    go false p true true h ih = ih ∙ sym (latest_skip v vs k s p)
    go false p true false h ih = latest_cong v (kept t vs) vs k s ih

pub below_kept : (t s : ℕ) (k : List ℕ) (vs : List Version) → later_below vs k t ≡ false → later_below (kept t vs) k s ≡ later_below vs k s
unfolding kept later_below any
below_kept t s k [] h = refl
below_kept t s k (v ∷ vs) h =
    go (same v.key k) refl (ltb v.moment t) (or v.gone (later_below vs v.key t)) h (below_kept t s k vs (or_right_no _ _ h))
  where
    go : (a : Bool) → same v.key k ≡ a → (b c : Bool) → or (a && b) (later_below vs k t) ≡ false → later_below (kept t vs) k s ≡ later_below vs k s →
        later_below (pick (b && c) (kept t vs) (v ∷ kept t vs)) k s ≡ later_below (v ∷ vs) k s
    go true p true c h ih = clash true refl h
    go true p false c h ih = rw ih refl
    go false p false c h ih = rw ih refl
    go false p true true h ih = rw (p, ih) refl
    go false p true false h ih = rw ih refl

pub below_mono : (t s : ℕ) (k : List ℕ) (vs : List Version) → t ≤ s → later_below vs k t ≡ true → later_below vs k s ≡ true
unfolding later_below
below_mono t s k vs h e =
    any_mono (below k t) (below k s) (λ v p. rw (and_left_of (same v.key k) (ltb v.moment t) p) (lt-ltb v.moment s (omega (arith, ltb-true v.moment t (and_right_of (same v.key k) (ltb v.moment t) p))))) vs e

-- one that's kept has none behind it below t
pub kept_has_none : (t : ℕ) (v : Version) (vs : List Version) → rising (v ∷ vs) ≡ true → (ltb v.moment t && or v.gone (later_below vs v.key t)) ≡ false →
    later_below vs v.key t ≡ false
unfolding rising later_below
kept_has_none t v vs r e = go (ltb v.moment t) refl e
  where
    go : (b : Bool) → ltb v.moment t ≡ b → (b && or v.gone (later_below vs v.key t)) ≡ false → later_below vs v.key t ≡ false
    go true p e = or_right_no v.gone _ e
    go false p e =
        every_not_any (not_later v) (below v.key t)
        (λ u q. rw (le-ltb u.moment t (omega (arith, ltb-false v.moment t p, leb-true v.moment u.moment (and_left_of _ _ q)))) (and_false_right _))
        vs (and_left_of _ _ r)

-- one that's dropped isn't missed
drop_safe : (t s : ℕ) (k : List ℕ) (v : Version) (vs : List Version) → t ≤ s → or v.gone (later_below vs v.key t) ≡ true →
    living (latest (v ∷ vs) k s) ≡ living (latest vs k s)
unfolding latest those none_of
drop_safe t s k v vs h e = go (same v.key k) refl v.gone refl e
  where
    go : (a : Bool) → same v.key k ≡ a → (g : Bool) → v.gone ≡ g → or g (later_below vs v.key t) ≡ true →
        living (latest (v ∷ vs) k s) ≡ living (latest vs k s)
    go false p g q e = ap living (latest_skip v vs k s p)
    go true p false q e =
        rw (latest_none vs k s, ← same_eq v.key k p, below_mono t s v.key vs h e) refl
    go true p true q e = gone_one (latest vs k s) (same v.key k && ltb v.moment s)
      where
        gone_one : (l : List Version) (b : Bool) → living (pick (none_of l) (pick b (v ∷ []) []) l) ≡ living l
        gone_one [] true = rw q refl
        gone_one [] false = refl
        gone_one (x ∷ xs) b = refl

pub not_missed : NotMissed
unfolding kept rising
not_missed [] t s k r h = refl
not_missed (v ∷ vs) t s k r h =
    go (ltb v.moment t && or v.gone (later_below vs v.key t)) refl (same v.key k) refl (not_missed vs t s k (and_right_of _ _ r) h)
  where
    go : (d : Bool) → (ltb v.moment t && or v.gone (later_below vs v.key t)) ≡ d → (a : Bool) → same v.key k ≡ a →
        seen (kept t vs) k s ≡ seen vs k s → seen (pick d (kept t vs) (v ∷ kept t vs)) k s ≡ seen (v ∷ vs) k s
    go true p a q ih = ih ∙ sym (drop_safe t s k v vs h (and_right_of _ _ p))
    go false p true q ih =
        ap living (latest_cong v (kept t vs) vs k s
        (latest_kept t s k vs (rw (same_eq v.key k q) at (kept_has_none t v vs r p))))
    go false p false q ih = rw (latest_skip v (kept t vs) k s q, latest_skip v vs k s q) ih

pub twice_once : TwiceOnce
unfolding kept rising
twice_once [] t u r h = refl
twice_once (v ∷ vs) t u r h =
    go (ltb v.moment t && or v.gone (later_below vs v.key t)) refl (twice_once vs t u (and_right_of _ _ r) h)
  where
    still : (ltb v.moment t && or v.gone (later_below vs v.key t)) ≡ true → (ltb v.moment u && or v.gone (later_below vs v.key u)) ≡ true
    still p = rw (lt-ltb v.moment u (omega (arith, ltb-true v.moment t (and_left_of (ltb v.moment t) (or v.gone (later_below vs v.key t)) p)))) (then (or_cases v.gone (later_below vs v.key t) (and_right_of (ltb v.moment t) _ p)))
      where
        then : (v.gone ≡ true) ⊎ (later_below vs v.key t ≡ true) → or v.gone (later_below vs v.key u) ≡ true
        then (inl g) = rw g refl
        then (inr b) = rw (below_mono t u v.key vs h b) (or_true_right v.gone)

    go : (d : Bool) → (ltb v.moment t && or v.gone (later_below vs v.key t)) ≡ d →
        kept u (kept t vs) ≡ kept u vs → kept u (pick d (kept t vs) (v ∷ kept t vs)) ≡ kept u (v ∷ vs)
    go true p ih = rw (still p) ih
    go false p ih = rw (below_kept t u v.key vs (kept_has_none t v vs r p), ih) refl
