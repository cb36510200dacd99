-- A walk over a sorted run: the state that it carries, and which versions it shows or keeps by it.
--   held key below      the state: a key as far as 255 bytes go, and whether one of it below the moment passed
--   last_key p          the key that a state holds
--   has_passed p k      one of the key k below the moment passed
--   newest_at, shown_at, kept_at    whether a version comes out of a walk for a moment: as the newest of its key, as seen, as kept
--   passed_at           the state when a version has passed
--   newest, shows, keeps, next      the same of a version
--   walked out t p vs   the versions that come out of a walk from a state, by a test
--   begun               the state of a walk that begins
--   short v             the version's key is held whole
--   to_keep, to_show    what is still to come out of a walk from a state, over the rest of a sorted run
--   latest_of vs s ks   of each of these keys the latest version below a moment, erasures too
use Rattle.std.specs.Prelude.{◌≡◌, ℕ, Bool, true, false, not, ◌&&◌, List, [], ◌∷◌, length, take, nat_le, nat_lt}
use Rattle.value.specs.Versions.{pick, or, same, every, Version, all_keys, all_seen, in_range, kept}
use Rattle.value.specs.Count.{smaller}
use Rattle.value.specs.Padded.{padded}
use Rattle.value.specs.Sorted.{latest_of, sort, kept_from, visible_from, slim, seek, until}
use Rattle.merge.specs.declared.stream.Passed.{Passed}

abbrev pub held : List ℕ → Bool → Passed
held key below = record { key = padded 255 key; len = smaller (length key) 255; below = below }

abbrev pub last_key : Passed → List ℕ
last_key p = take p.len p.key

abbrev pub has_passed : Passed → List ℕ → Bool
has_passed p key = p.below && same (last_key p) key

abbrev pub newest_at : ℕ → Passed → List ℕ → ℕ → Bool
newest_at t p key moment = nat_lt moment t && not (has_passed p key)

abbrev pub shown_at : ℕ → Passed → List ℕ → ℕ → Bool → Bool
shown_at t p key moment gone = not gone && newest_at t p key moment

-- what is dropped is below the moment, and stands behind one of its key that is below too or, if nothing older is left, is gone
abbrev pub kept_at : Bool → ℕ → Passed → List ℕ → ℕ → Bool → Bool
kept_at oldest t p key moment gone = not (nat_lt moment t && or (oldest && gone) (has_passed p key))

abbrev pub passed_at : ℕ → Passed → List ℕ → ℕ → Passed
passed_at t p key moment = held key (or (nat_lt moment t) (has_passed p key))

abbrev pub newest : ℕ → Passed → Version → Bool
newest t p v = newest_at t p v.key v.moment

abbrev pub shows : ℕ → Passed → Version → Bool
shows t p v = shown_at t p v.key v.moment v.gone

abbrev pub keeps : Bool → ℕ → Passed → Version → Bool
keeps oldest t p v = kept_at oldest t p v.key v.moment v.gone

abbrev pub next : ℕ → Passed → Version → Passed
next t p v = passed_at t p v.key v.moment

unfoldable pub walked : (Passed → Version → Bool) → ℕ → Passed → List Version → List Version
walked out t p [] = []
walked out t p (v ∷ vs) = pick (out p v) (v ∷ walked out t (next t p v) vs) (walked out t (next t p v) vs)

abbrev pub begun : Passed
begun = held [] false

abbrev pub short : Version → Bool
short v = nat_le (length v.key) 255

abbrev pub to_keep : Bool → ℕ → Passed → List Version → List Version
to_keep oldest t p vs = kept_from oldest t (last_key p) p.below vs

abbrev pub to_show : ℕ → Passed → List Version → List Version
to_show s p vs = visible_from s (last_key p) p.below vs

-- THE STATEMENTS. What a state holds of a key, of any length.
abbrev pub Holds : Type 0
Holds = (key : List ℕ) (below : Bool) → last_key (held key below) ≡ take 255 key

-- For keys of at most 255 bytes a walk that keeps takes one step at a time, and over a sorted run leaves the sorted run of what
-- may not be forgotten; where something older is left, of what may not be slimmed away.
pub record WalkKeeps : Type 0 where
  pub step : (oldest : Bool) (t : ℕ) (p : Passed) (v : Version) (vs : List Version) → short v ≡ true →
      to_keep oldest t p (v ∷ vs) ≡ pick (keeps oldest t p v) (v ∷ to_keep oldest t (next t p v) vs) (to_keep oldest t (next t p v) vs)
  pub whole : (oldest : Bool) (t : ℕ) (p : Passed) (vs : List Version) → every short vs ≡ true → walked (keeps oldest t) t p vs ≡ to_keep oldest t p vs
  pub oldest_run : (t : ℕ) (vs : List Version) → every short vs ≡ true → walked (keeps true t) t begun (sort vs) ≡ sort (kept t vs)
  pub later_run : (t : ℕ) (vs : List Version) → every short vs ≡ true → walked (keeps false t) t begun (sort vs) ≡ sort (slim t vs)

-- So does a walk that shows: over a sorted run it shows all that is seen, and of the part of a range what is seen of that.
pub record WalkShows : Type 0 where
  pub step : (s : ℕ) (p : Passed) (v : Version) (vs : List Version) → short v ≡ true →
      to_show s p (v ∷ vs) ≡ pick (shows s p v) (v ∷ to_show s (next s p v) vs) (to_show s (next s p v) vs)
  pub whole : (s : ℕ) (p : Passed) (vs : List Version) → every short vs ≡ true → walked (shows s) s p vs ≡ to_show s p vs
  pub seen : (s : ℕ) (vs : List Version) → every short vs ≡ true → walked (shows s) s begun (sort vs) ≡ all_seen vs s
  pub range : (s : ℕ) (vs : List Version) (a : List ℕ) (b : List (List ℕ)) → every short vs ≡ true →
      walked (shows s) s begun (until b (seek a (sort vs))) ≡ in_range vs s a b

-- A walk for the newest gives the latest version of each key, erasures too.
abbrev pub WalkNewest : Type 0
WalkNewest = (s : ℕ) (vs : List Version) → every short vs ≡ true → walked (newest s) s begun (sort vs) ≡ latest_of vs s (all_keys vs)
