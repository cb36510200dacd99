-- The memtable on any words: its state is how many versions there are, how many words of the arena they take, and what they weigh.
-- `accepts t i a k v`: has it room, in i words of index and a words of arena, for a version with a key of k bytes and a value of v? All that it holds weighs at most 2^20.
-- `after_one`: its state then. `entries t index`: how many places of the index count.
-- `seek_place t index arena k s`: the first of them at or behind a key at a moment: not of a lower key, nor of this key with a moment of s or more.
-- `found`: the place of the newest version of a key below a moment. `written_at`: was the key written at this moment?
-- `index_after`, `arena_after`: what an insertion leaves.
use Rattle.std.specs.Prelude.{ℕ, ◌+◌, ◌-◌, ◌<◌, ◌≤◌, Bool, true, false, ◌&&◌, List, length, Some, None, Option, ◌==◌, nat_le, nat_lt, slice_index}
use Rattle.value.specs.Versions.{pick, Version}
use Rattle.value.specs.Count.{smaller}
use Rattle.std.specs.declared.cmp.Ordering.{Ordering}
use Rattle.std.specs.declared.cmp.Ordering.TheVariants.{Less, Equal, Greater}
use Rattle.memtable.specs.Loops.{bisect}
use Rattle.memtable.specs.Arena.{moment_at, order_at, size, has_room, appended}
use Rattle.memtable.specs.Index.{entered}
use Rattle.memtable.specs.declared.memtable.Memtable.{Memtable}

abbrev pub memtable : ℕ → ℕ → ℕ → Memtable
memtable n u w = record { versions = n; used = u; weight = w }

abbrev pub none : Memtable
none = memtable 0 0 0

unfoldable pub accepts : Memtable → ℕ → ℕ → ℕ → ℕ → Bool
accepts t i a k v = has_room a t.used k v && (nat_lt t.versions i && nat_le (t.weight + (64 + k + v)) 1048576)

abbrev pub one_more : Memtable → ℕ → ℕ → Memtable
one_more t k v = memtable (t.versions + 1) (t.used + size k v) (t.weight + (64 + k + v))

-- with it, all counts are numbers of 64 bits
pub record Countable (t : Memtable) (k v : ℕ) : Type 0 where
  pub key : k ≤ 255
  pub value : v ≤ 1024
  pub versions : t.versions < 18446744073709551615
  pub used : t.used + size k v < 18446744073709551616
  pub weight : t.weight ≤ 1048576

unfoldable pub after_one : Memtable → ℕ → ℕ → ℕ → ℕ → Memtable
after_one t i a k v = pick (accepts t i a k v) (one_more t k v) t

abbrev pub entries : Memtable → List ℕ → ℕ
entries t index = smaller t.versions (length index)

-- does a version, by its key's order to another and its moment m, come before that key at s?
abbrev pub ahead : Ordering → ℕ → ℕ → Bool
ahead Less m s = true
ahead Equal m s = nat_le s m
ahead Greater m s = false

unfoldable pub ahead_at : List ℕ → List ℕ → List ℕ → ℕ → ℕ → Bool
ahead_at index arena k s i = ahead (order_at arena (slice_index index i) k) (moment_at arena (slice_index index i)) s

unfoldable pub seek_place : Memtable → List ℕ → List ℕ → List ℕ → ℕ → ℕ
seek_place t index arena k s = bisect (ahead_at index arena k s) 64 0 (entries t index)

abbrev pub if_same : Ordering → ℕ → Option ℕ
if_same Less p = None
if_same Equal p = Some p
if_same Greater p = None

abbrev pub found_from : List ℕ → List ℕ → List ℕ → ℕ → ℕ → Option ℕ
found_from index arena k n i = pick (nat_lt i n) (if_same (order_at arena (slice_index index i) k) (slice_index index i)) None

unfoldable pub found : Memtable → List ℕ → List ℕ → List ℕ → ℕ → Option ℕ
found t index arena k s = found_from index arena k (entries t index) (seek_place t index arena k s)

abbrev pub at_moment : Ordering → ℕ → ℕ → Bool
at_moment Less m s = false
at_moment Equal m s = m == s
at_moment Greater m s = false

-- the last of those before the place i
abbrev pub written_below : List ℕ → List ℕ → List ℕ → ℕ → ℕ → Bool
written_below index arena k s i =
    pick (i == 0) false (at_moment (order_at arena (slice_index index (i - 1)) k) (moment_at arena (slice_index index (i - 1))) s)

unfoldable pub written_at : Memtable → List ℕ → List ℕ → List ℕ → ℕ → Bool
written_at t index arena k s = written_below index arena k s (seek_place t index arena k s)

abbrev pub accepts_it : Memtable → List ℕ → List ℕ → Version → Bool
accepts_it t index arena v = accepts t (length index) (length arena) (length v.key) (length v.value)

abbrev pub table_after : Memtable → List ℕ → List ℕ → Version → Memtable
table_after t index arena v = after_one t (length index) (length arena) (length v.key) (length v.value)

unfoldable pub index_after : Memtable → List ℕ → List ℕ → Version → List ℕ
index_after t index arena v =
    pick (accepts_it t index arena v) (entered index t.versions (seek_place t index arena v.key v.moment) t.used) index

unfoldable pub arena_after : Memtable → List ℕ → List ℕ → Version → List ℕ
arena_after t index arena v = pick (accepts_it t index arena v) (appended arena t.used v) arena
