-- Where tables and lists lie. Pages 0 to 2 are for lists; the pages behind them are two halves, of which one is in use.
--   half_pages n      the pages of each half, of n pages
--   half_start n h    the first page of a half
--   half_end n h      the page behind its last
--   other h           the other half
--   slot_of c         the page for the list with commit number c
--   InHalf n h k     page k lies in the half
--   in_half n h qs    all these writes go to the half
use Rattle.std.specs.Prelude.{ℕ, ◌+◌, ◌-◌, ◌/◌, ◌%◌, ◌<◌, ◌≤◌, Bool, ◌&&◌, List, nat_le, nat_lt}
use Rattle.value.specs.Versions.{every}
use Rattle.table.specs.Device.{Write}
use Rattle.manifest.specs.declared.fields.Half.{Half}
use Rattle.manifest.specs.declared.fields.Half.TheVariants.{First, Second}

abbrev pub half_pages : ℕ → ℕ
half_pages n = (n - 3) / 2

abbrev pub half_start : ℕ → Half → ℕ
half_start n First = 3
half_start n Second = 3 + half_pages n

abbrev pub half_end : ℕ → Half → ℕ
half_end n h = half_start n h + half_pages n

abbrev pub other : Half → Half
other First = Second
other Second = First

abbrev pub slot_of : ℕ → ℕ
slot_of c = c % 2

pub record InHalf (n : ℕ) (h : Half) (k : ℕ) : Type 0 where
  pub from : half_start n h ≤ k
  pub below : k < half_end n h

abbrev pub lies_in : ℕ → Half → Write → Bool
lies_in n h w = nat_le (half_start n h) w.at && nat_lt w.at (half_end n h)

unfoldable pub in_half : ℕ → Half → List Write → Bool
in_half n h qs = every (lies_in n h) qs

-- THE STATEMENT. The halves lie behind the lists, within the pages, and share no page.
pub record HalvesApart : Type 0 where
  pub behind : (n : ℕ) (h : Half) → 3 ≤ half_start n h
  pub within : (n : ℕ) (h : Half) → 64 ≤ n → n ≤ 1048576 → half_end n h ≤ n
  pub large : (n : ℕ) → 64 ≤ n → n ≤ 1048576 → 30 ≤ half_pages n
  pub apart : (n : ℕ) (h : Half) (k : ℕ) → InHalf n h k → InHalf n (other h) k → ⊥
