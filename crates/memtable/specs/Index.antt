-- The index: a word for each version, its place in the arena, in the order of a table.
-- `entered index n at p`: of an index of n places, p put in at `at`, and those from there on moved by one; unchanged if `at` is not one of them or there is no room.
use Rattle.std.specs.Prelude.{ℕ, ◌+◌, ◌-◌, ◌&&◌, List, ◌∷◌, ◌++◌, length, take, drop, nat_le, nat_lt}
use Rattle.value.specs.Versions.{pick}

unfoldable pub moved : List ℕ → ℕ → ℕ → ℕ → List ℕ
moved index n at p = take at index ++ (p ∷ (take (n - at) (drop at index) ++ drop (n + 1) index))

unfoldable pub entered : List ℕ → ℕ → ℕ → ℕ → List ℕ
entered index n at p = pick (nat_le at n && nat_lt n (length index)) (moved index n at p) index
