-- What the words hold: a list of versions, in the order in which they came. Definitions, and statements whose proofs are owed.
-- `fits v`: a key of 1 to 255 bytes, a value of up to 1,024, a moment of 64 bits. `encode_all vs`: versions as words, one after another.
-- `Stands ws p v`: the words from p on are the version v. `goes_before k s v`: v comes before the key k at s. `Holds index arena t vs`: the memtable t in these words is the list vs.
use Rattle.std.specs.Prelude.{◌≡◌, ℕ, suc, ◌<◌, ◌≤◌, Bool, true, false, not, ◌&&◌, ltb, List, [], ◌∷◌, ◌++◌, length, take, drop, Some, None, Option, ◌==◌, nat_le, nat_lt, slice_index}
use Rattle.std.specs.List.{AllByRecursion}
use Rattle.value.specs.Versions.{or, every, any, those, each, same, before, Version, latest, weight}
use Rattle.value.specs.Rising.{rising}
use Rattle.value.specs.Order.{OrderSays}
use Rattle.value.specs.Sorted.{sort, seek}
use Rattle.memtable.specs.Words.{bytes}
use Rattle.memtable.specs.Arena.{version_at, encoded, appended, order_at}
use Rattle.memtable.specs.Index.{entered}
use Rattle.memtable.specs.Memtable.{none, accepts_it, seek_place, found, written_at, table_after, index_after, arena_after}
use Rattle.memtable.specs.declared.memtable.Memtable.{Memtable}

unfoldable pub fits : Version → Bool
fits v =
    (nat_le 1 (length v.key) && (nat_le (length v.key) 255 && nat_le (length v.value) 1024))
    && ((bytes v.key && bytes v.value) && nat_lt v.moment 18446744073709551616)

unfoldable pub encode_all : List Version → List ℕ
encode_all [] = []
encode_all (v ∷ vs) = encoded v ++ encode_all vs

unfoldable pub Stands : List ℕ → ℕ → Version → Type 0
Stands ws p v = take (length (encoded v)) (drop p ws) ≡ encoded v

-- does a version come before a key at a moment, in the order of a table: has it a lower key, or this key and this moment or a later one?
abbrev pub goes_before : List ℕ → ℕ → Version → Bool
goes_before k s v = or (before v.key k) (same v.key k && nat_le s v.moment)

pub record Holds (index arena : List ℕ) (t : Memtable) (vs : List Version) : Type 0 where
  pub counted : t.versions ≡ length vs
  pub weighed : t.weight ≡ weight vs
  pub ended : t.used ≡ length (encode_all vs)
  pub filled : take t.used arena ≡ encode_all vs
  pub sorted : each (version_at arena) (take t.versions index) ≡ sort vs
  pub stand : AllByRecursion (λ p. Stands (take t.used arena) p (version_at arena p)) (take t.versions index)
  pub fit : every fits vs ≡ true
  pub light : weight vs ≤ 1048576

-- the place that was found, if one was
abbrev pub as_list : Option ℕ → List ℕ
as_list None = []
as_list (Some p) = p ∷ []

-- each a number of 64 bits
unfoldable pub small : List ℕ → Bool
small ws = every (λ w. ltb w 18446744073709551616) ws

-- THE STATEMENTS. Without versions nothing is held, whatever the words are.
abbrev pub EmptyRight : Type 0
EmptyRight = (index arena : List ℕ) → Holds index arena none []

-- What is inserted is held, behind all that came.
abbrev pub InsertRight : Type 0
InsertRight =
    (index arena : List ℕ) (t : Memtable) (vs : List Version) (v : Version) →
    Holds index arena t vs → fits v ≡ true → rising (vs ++ v ∷ []) ≡ true → accepts_it t index arena v ≡ true →
    Holds (index_after t index arena v) (arena_after t index arena v) (table_after t index arena v) (vs ++ v ∷ [])

-- What is not accepted changes nothing; and a key that is empty or has more than 255 bytes, or a value of more than 1,024, is not accepted.
abbrev pub RefusedSame : Type 0
RefusedSame =
    (index arena : List ℕ) (t : Memtable) (v : Version) →
    (accepts_it t index arena v ≡ false → (index_after t index arena v ≡ index) × (arena_after t index arena v ≡ arena) × (table_after t index arena v ≡ t))
    × ((nat_le 1 (length v.key) && (nat_le (length v.key) 255 && nat_le (length v.value) 1024)) ≡ false → accepts_it t index arena v ≡ false)

-- What weighs at most 2^20 has at most 16,131 versions and takes at most 2^17 words.
abbrev pub SizesSuffice : Type 0
SizesSuffice = (vs : List Version) → every fits vs ≡ true → weight vs ≤ 1048576 → (length vs ≤ 16131) × (length (encode_all vs) ≤ 131072)

-- So in 2^14 words of index and 2^17 of arena there is room for whatever does not pass that weight.
abbrev pub RoomRight : Type 0
RoomRight =
    (index arena : List ℕ) (t : Memtable) (vs : List Version) (v : Version) →
    Holds index arena t vs → fits v ≡ true → 16384 ≤ length index → 131072 ≤ length arena →
    accepts_it t index arena v ≡ nat_le (weight (vs ++ v ∷ [])) 1048576

-- What is found is the latest.
abbrev pub FindRight : Type 0
FindRight =
    (index arena : List ℕ) (t : Memtable) (vs : List Version) (k : List ℕ) (s : ℕ) →
    Holds index arena t vs → rising vs ≡ true → bytes k ≡ true → each (version_at arena) (as_list (found t index arena k s)) ≡ latest vs k s

-- A key was written at a moment if one of the versions says so.
abbrev pub WrittenRight : Type 0
WrittenRight =
    (index arena : List ℕ) (t : Memtable) (vs : List Version) (k : List ℕ) (m : ℕ) →
    Holds index arena t vs → rising vs ≡ true → bytes k ≡ true → written_at t index arena k m ≡ any (λ v. same v.key k && v.moment == m) vs

-- A walk over the index is a walk over the table of what came, and compares keys as keys.
abbrev pub WalkRight : Type 0
WalkRight =
    (index arena : List ℕ) (t : Memtable) (vs : List Version) (i : ℕ) →
    Holds index arena t vs → i < t.versions →
    (drop i (sort vs) ≡ version_at arena (slice_index index i) ∷ drop (suc i) (sort vs))
    × ((k : List ℕ) → bytes k ≡ true → OrderSays (version_at arena (slice_index index i)).key k (order_at arena (slice_index index i) k))

-- It may begin anywhere: before the place that is sought stand those that go before, from it on all others; above all moments these are those from the key on.
abbrev pub SeekRight : Type 0
SeekRight =
    (index arena : List ℕ) (t : Memtable) (vs : List Version) (k : List ℕ) (s : ℕ) →
    Holds index arena t vs → rising vs ≡ true → bytes k ≡ true →
    (take (seek_place t index arena k s) (sort vs) ≡ those (goes_before k s) (sort vs))
    × (drop (seek_place t index arena k s) (sort vs) ≡ those (λ v. not (goes_before k s v)) (sort vs))
    × (every (λ v. ltb v.moment s) vs ≡ true → drop (seek_place t index arena k s) (sort vs) ≡ seek k (sort vs))

-- On any words a write keeps how many there are, and that they have 64 bits.
abbrev pub AppendKeeps : Type 0
AppendKeeps =
    (arena : List ℕ) (used : ℕ) (v : Version) →
    (length (appended arena used v) ≡ length arena) × (small arena ≡ true → small (appended arena used v) ≡ true)

abbrev pub EnterKeeps : Type 0
EnterKeeps =
    (index : List ℕ) (n at p : ℕ) →
    (length (entered index n at p) ≡ length index) × (p < 18446744073709551616 → small index ≡ true → small (entered index n at p) ≡ true)

abbrev pub InsertKeeps : Type 0
InsertKeeps =
    (index arena : List ℕ) (t : Memtable) (v : Version) →
    (length (index_after t index arena v) ≡ length index)
    × (length (arena_after t index arena v) ≡ length arena)
    × (t.used < 18446744073709551616 → small index ≡ true → small (index_after t index arena v) ≡ true)
    × (small arena ≡ true → small (arena_after t index arena v) ≡ true)
