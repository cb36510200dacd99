-- What is checked before a version is written. Each check hands on a value, or the command leaves with its number.
--   checked o r m f     go on with what o hands on, or refuse with r
--   key_size .. within_pages    the checks, under their functions' names
use Rattle.std.specs.Prelude.{ℕ, ◌*◌, List, length, Some, None, Option, nat_le, nat_lt}
use Rattle.value.specs.Versions.{pick}
use Rattle.memtable.specs.Memtable.{accepts, one_more, seek_place, written_at}
use Rattle.memtable.specs.declared.memtable.Memtable.{Memtable}
use Rattle.store.specs.House.{a_key}
use Rattle.store.specs.Promise.{Step, refused}
use Rattle.store.specs.Acts.{stepped}
use Rattle.store.specs.Regions.{index_of, arena_of}

abbrev pub checked : {A : Type 0} → Option A → ℕ → List ℕ → (A → Step) → Step
checked None r m f = stepped m (refused r)
checked (Some x) r m f = f x

abbrev pub key_size : List ℕ → Option ℕ
key_size k = pick (a_key k) (Some (length k)) None

abbrev pub value_size : List ℕ → Option ℕ
value_size v = pick (nat_le (length v) 1024) (Some (length v)) None

abbrev pub proper_moment : ℕ → Option ℕ
proper_moment m = pick (nat_lt m 9223372036854775808) (Some m) None

abbrev pub not_earlier : ℕ → ℕ → Option ℕ
not_earlier last m = pick (nat_lt m last) None (Some m)

-- where the version goes in the index, if its key was not written at this moment, as far as memory knows
unfoldable pub unwritten : Memtable → List ℕ → List ℕ → ℕ → Option ℕ
unwritten t m k s = pick (written_at t (index_of m) (arena_of m) k s) None (Some (seek_place t (index_of m) (arena_of m) k s))

-- the memtable with the version, if what is not safe does not weigh too much then
abbrev pub roomy : Memtable → ℕ → ℕ → Option Memtable
roomy t k v = pick (accepts t 16384 131072 k v) (Some (one_more t k v)) None

abbrev pub within_pages : ℕ → ℕ → Option ℕ
within_pages pages w = pick (nat_lt (128 * pages) w) None (Some w)
