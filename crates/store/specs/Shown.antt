-- A version as it is shown: its key's length, the key, and the value, in one row, which has at most 1,280 numbers, whatever memory holds.
--   row_at a p     the row of the version at a place of the arena
--   row_of k v     the row of a key and a value
use Rattle.std.specs.Prelude.{ℕ, List, ◌∷◌, ◌++◌, length, take}
use Rattle.memtable.specs.Arena.{key_length, key_at, value_at}

unfoldable pub row_at : List ℕ → ℕ → List ℕ
row_at a p = take 1280 (key_length a p ∷ (key_at a p ++ value_at a p))

unfoldable pub row_of : List ℕ → List ℕ → List ℕ
row_of k v = take 1280 (length k ∷ (k ++ v))
