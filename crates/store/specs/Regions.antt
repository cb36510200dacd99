-- The first words of a machine's memory: 64 of control, 16,384 of the memtable's index, 131,072 of its arena.
--   region a n m       n words from a on
--   within a n f m     the memory with f done to them
--   in_arena, in_index    the memory with a version more in the arena, and with its place in the index
--   wrap n             a number cut to 64 bits
use Rattle.std.specs.Prelude.{ℕ, ◌%◌, List, ◌++◌, take, drop, Option}
use Rattle.value.specs.Versions.{Version}
use Rattle.memtable.specs.Arena.{appended}
use Rattle.memtable.specs.Index.{entered}
use Rattle.memtable.specs.declared.memtable.Memtable.{Memtable}
use Rattle.memtable.specs.Memtable.{found}

abbrev pub wrap : ℕ → ℕ
wrap n = n % 18446744073709551616

unfoldable pub region : ℕ → ℕ → List ℕ → List ℕ
region a n m = take n (drop a m)

unfoldable pub within : ℕ → ℕ → (List ℕ → List ℕ) → List ℕ → List ℕ
within a n f m = take a m ++ (f (region a n m) ++ drop n (drop a m))

abbrev pub index_of : List ℕ → List ℕ
index_of m = region 64 16384 m

abbrev pub arena_of : List ℕ → List ℕ
arena_of m = region 16448 131072 m

unfoldable pub in_arena : ℕ → Version → List ℕ → List ℕ
in_arena used v m = within 16448 131072 (λ x. appended x used v) m

unfoldable pub in_index : Memtable → ℕ → List ℕ → List ℕ
in_index t place m = within 64 16384 (λ x. entered x t.versions place t.used) m

-- the place in the arena of the version that a reading wants
unfoldable pub sought : Memtable → List ℕ → List ℕ → ℕ → Option ℕ
sought t m key s = found t (index_of m) (arena_of m) key s
