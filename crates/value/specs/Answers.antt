-- What is promised of answers over one list of versions, whoever stores it and however. Each is a statement, a type whose proof is owed.
use Rattle.std.specs.Prelude.{◌≡◌, ℕ, ◌<◌, ◌≤◌, Bool, true, false, ◌&&◌, List, [], ◌∷◌, ◌++◌}
use Rattle.value.specs.Versions.{pick, every, those, none_of, same, before, Version, latest, seen, all_seen, kept}
use Rattle.value.specs.Rising.{rising}

-- What's forgotten isn't missed, from the moment on; and forgetting twice is forgetting once, by the later moment.
abbrev pub NotMissed : Type 0
NotMissed = (vs : List Version) (t s : ℕ) (k : List ℕ) → rising vs ≡ true → t ≤ s → seen (kept t vs) k s ≡ seen vs k s

abbrev pub TwiceOnce : Type 0
TwiceOnce = (vs : List Version) (t u : ℕ) → rising vs ≡ true → t ≤ u → kept u (kept t vs) ≡ kept u vs

-- What's in a range is what's seen of its keys, each once, in order.
unfoldable pub ordered : List Version → Bool
ordered [] = true
ordered (v ∷ vs) = every (λ u. before v.key u.key) vs && ordered vs

abbrev pub RangeRight : Type 0
RangeRight =
    (vs : List Version) (s : ℕ) (k : List ℕ) →
    (ordered (all_seen vs s) ≡ true) × (those (λ v. same v.key k) (all_seen vs s) ≡ seen vs k s)

-- Runs of versions, each of all that came at some time, may be looked through from the latest: the first that has one decides.
abbrev pub LaterFirst : Type 0
LaterFirst =
    (vs us : List Version) (k : List ℕ) (s : ℕ) →
    latest (vs ++ us) k s ≡ pick (none_of (latest us k s)) (latest vs k s) (latest us k s)

-- What's written is seen from the next moment on, and changes nothing for those before.
abbrev pub WriteSeen : Type 0
WriteSeen =
    (vs : List Version) (v : Version) (k : List ℕ) (s : ℕ) →
    (s ≤ v.moment → seen (vs ++ v ∷ []) k s ≡ seen vs k s)
    × (v.moment < s → v.gone ≡ false → seen (vs ++ v ∷ []) v.key s ≡ v ∷ [])
    × (v.moment < s → v.gone ≡ true → seen (vs ++ v ∷ []) v.key s ≡ [])
    × (same k v.key ≡ false → seen (vs ++ v ∷ []) k s ≡ seen vs k s)
