-- Walks by the code's tests are the walks over a sorted run, for keys that a state holds whole.
use Rattle.std.proofs.Common.{◌≡◌, ℕ, ◌<◌, ◌≤◌, Bool, true, false, not, ◌&&◌, ltb, List, [], ◌∷◌, length, take, sym, refl, ap, ◌∙◌, inl, inr, arith, leb-true}
use Rattle.std.proofs.lemmas.Bool.{lt-ltb, le-ltb, cases_lt}
use Rattle.std.proofs.lemmas.List.{take_all}
use Rattle.value.specs.Versions.{pick, or, every, before, up_to_key, Version, all_seen}
use Rattle.value.specs.Padded.{padded}
use Rattle.value.specs.Sorted.{sort, passed, kept_from, visible_from, seek, until}
use Rattle.value.proofs.TestLaws.{and_left_of, and_right_of}
use Rattle.value.proofs.SortLaws.{sort_every}
use Rattle.value.proofs.ForgettingLaws.{forget_right}
use Rattle.value.proofs.VisibleLaws.{visible_right}
use Rattle.value.proofs.PaddedLaws.{length_padded, padded_is_take, take_padded}
use Rattle.merge.specs.declared.stream.Passed.{Passed}
use Rattle.merge.specs.Stream.{held, last_key, keeps, shows, next, walked, begun, short, to_keep, to_show, Holds, WalkKeeps, WalkShows}

-- the state holds a key as far as it goes, and so a short one whole
pub holds : Holds
holds key below = elim (cases_lt (length key) 255) [ inl g ↦ rw (lt-ltb (length key) 255 g) (whole g) | inr g ↦ rw (le-ltb (length key) 255 g) (cut g) ]
  where
    whole : length key < 255 → take (length key) (padded 255 key) ≡ take 255 key
    whole g = take_padded 255 key (omega arith) ∙ sym (take_all 255 key (omega arith))

    cut : 255 ≤ length key → take 255 (padded 255 key) ≡ take 255 key
    cut g = take_all 255 (padded 255 key) (omega (arith, length_padded 255 key)) ∙ padded_is_take 255 key g

last_held : (key : List ℕ) (below : Bool) → length key ≤ 255 → last_key (held key below) ≡ key
last_held key below h = holds key below ∙ take_all 255 key h

or_swap : (a b : Bool) → or a b ≡ or b a
or_swap true true = refl
or_swap true false = refl
or_swap false true = refl
or_swap false false = refl

-- the state behind a version, as the definitions of the walks have it
goes_on : (F : List ℕ → Bool → List Version) (t : ℕ) (p : Passed) (v : Version) → short v ≡ true →
    F v.key (or (passed (last_key p) p.below v) (ltb v.moment t)) ≡ F (last_key (next t p v)) (next t p v).below
goes_on F t p v h =
    let e = last_held v.key (next t p v).below (leb-true (length v.key) 255 h) in
    let f = or_swap (passed (last_key p) p.below v) (ltb v.moment t) in
    λ i. F (sym e i) (f i)

drop_or_keep : (d : Bool) (v : Version) (as₁ bs : List Version) → as₁ ≡ bs → pick d as₁ (v ∷ as₁) ≡ pick (not d) (v ∷ bs) bs
drop_or_keep true v as₁ bs e = e
drop_or_keep false v as₁ bs e = ap (λ l. v ∷ l) e

show_or_pass : (m g a : Bool) (v : Version) (as₁ bs : List Version) → as₁ ≡ bs →
    pick (m && not (or g a)) (v ∷ as₁) as₁ ≡ pick (not g && (m && not a)) (v ∷ bs) bs
show_or_pass true true a v as₁ bs e = e
show_or_pass true false true v as₁ bs e = e
show_or_pass true false false v as₁ bs e = ap (λ l. v ∷ l) e
show_or_pass false true a v as₁ bs e = e
show_or_pass false false a v as₁ bs e = e

keep_step : (oldest : Bool) (t : ℕ) (p : Passed) (v : Version) (vs : List Version) → short v ≡ true →
    to_keep oldest t p (v ∷ vs) ≡ pick (keeps oldest t p v) (v ∷ to_keep oldest t (next t p v) vs) (to_keep oldest t (next t p v) vs)
unfolding kept_from
keep_step oldest t p v vs h = drop_or_keep _ v _ _ (goes_on (λ k q. kept_from oldest t k q vs) t p v h)

show_step : (s : ℕ) (p : Passed) (v : Version) (vs : List Version) → short v ≡ true →
    to_show s p (v ∷ vs) ≡ pick (shows s p v) (v ∷ to_show s (next s p v) vs) (to_show s (next s p v) vs)
unfolding visible_from
show_step s p v vs h = show_or_pass (ltb v.moment s) v.gone _ v _ _ (goes_on (λ k q. visible_from s k q vs) s p v h)

-- steps make a walk
walk_is : (out : Passed → Version → Bool) (t : ℕ) (F : Passed → List Version → List Version) → ((p : Passed) → F p [] ≡ []) →
    ((p : Passed) (v : Version) (vs : List Version) → short v ≡ true → F p (v ∷ vs) ≡ pick (out p v) (v ∷ F (next t p v) vs) (F (next t p v) vs)) →
    (p : Passed) (vs : List Version) → every short vs ≡ true → walked out t p vs ≡ F p vs
unfolding walked every
walk_is out t F none step p [] h = sym (none p)
walk_is out t F none step p (v ∷ vs) h =
    ap (λ l. pick (out p v) (v ∷ l) l) (walk_is out t F none step (next t p v) vs (and_right_of (short v) (every short vs) h))
    ∙ sym (step p v vs (and_left_of (short v) (every short vs) h))

keep_whole : (oldest : Bool) (t : ℕ) (p : Passed) (vs : List Version) → every short vs ≡ true → walked (keeps oldest t) t p vs ≡ to_keep oldest t p vs
unfolding kept_from
keep_whole oldest t p vs h = walk_is (keeps oldest t) t (to_keep oldest t) (λ q. refl) (keep_step oldest t) p vs h

pub show_whole : (s : ℕ) (p : Passed) (vs : List Version) → every short vs ≡ true → walked (shows s) s p vs ≡ to_show s p vs
unfolding visible_from
show_whole s p vs h = walk_is (shows s) s (to_show s) (λ q. refl) (show_step s) p vs h

short_sort : (vs : List Version) → every short vs ≡ true → every short (sort vs) ≡ true
short_sort vs h = sort_every short vs ∙ h

pub walk_keeps : WalkKeeps
walk_keeps = record {
  step = keep_step;
  whole = keep_whole;
  oldest_run = λ t vs h. keep_whole true t begun (sort vs) (short_sort vs h) ∙ (forget_right vs t).0;
  later_run = λ t vs h. keep_whole false t begun (sort vs) (short_sort vs h) ∙ (forget_right vs t).1;
}

-- a part of a run is short as well
every_seek : (f : Version → Bool) (a : List ℕ) (vs : List Version) → every f vs ≡ true → every f (seek a vs) ≡ true
unfolding seek every
every_seek f a [] h = refl
every_seek f a (v ∷ vs) h = go (before v.key a) (every_seek f a vs (and_right_of (f v) (every f vs) h))
  where
    go : (b : Bool) → every f (seek a vs) ≡ true → every f (pick b (seek a vs) (v ∷ vs)) ≡ true
    go true ih = ih
    go false ih = h

every_until : (f : Version → Bool) (b : List (List ℕ)) (vs : List Version) → every f vs ≡ true → every f (until b vs) ≡ true
unfolding until every
every_until f b [] h = refl
every_until f b (v ∷ vs) h = go (up_to_key b v.key) (every_until f b vs (and_right_of (f v) (every f vs) h))
  where
    go : (c : Bool) → every f (until b vs) ≡ true → every f (pick c (v ∷ until b vs) []) ≡ true
    go true ih = rw (and_left_of (f v) (every f vs) h) ih
    go false ih = refl

pub show_all : (s : ℕ) (vs : List Version) → every short vs ≡ true → walked (shows s) s begun (sort vs) ≡ all_seen vs s
show_all s vs h = show_whole s begun (sort vs) (short_sort vs h) ∙ (visible_right vs s).0

pub walk_shows : WalkShows
walk_shows = record {
  step = show_step;
  whole = show_whole;
  seen = show_all;
  range = λ s vs a b h.
      show_whole s begun (until b (seek a (sort vs))) (every_until short b (seek a (sort vs)) (every_seek short a (sort vs) (short_sort vs h)))
      ∙ (visible_right vs s).1 a b;
}
