-- The row of numbers that the machine lends.
--   front        its first numbers
--   PageSays    the page in its first 512 numbers; none where one of them is no byte
use Rattle.std.specs.Prelude.{◌≡◌, ℕ, ◌<◌, ◌≤◌, cond, List, length, take, Some, None, Option, nat_lt, slice_index}

abbrev pub front : List ℕ → ℕ → Option (List ℕ)
front out len = cond (nat_lt (length out) len) None (Some (take len out))

abbrev pub as_byte : ℕ → Option ℕ
as_byte n = cond (nat_lt n 256) (Some n) None

abbrev pub PageSays : List ℕ → Option (List ℕ) → Type 0
PageSays out (Some page) = (k : ℕ) → k < 512 → slice_index page k ≡ slice_index out k
PageSays out None = (k : ℕ) × (k < 512) × (256 ≤ slice_index out k)
