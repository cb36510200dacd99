-- Loops as definitions. `bisect p n low high`: n rounds of a search between two places for the first where the test fails.
-- `compare f g n k tie`: where the first of two rows of words stands to the second, n words from k on; `tie` if all are the same.
use Rattle.std.specs.Prelude.{ℕ, zero, suc, ◌+◌, ◌-◌, ◌/◌, Bool, nat_lt}
use Rattle.value.specs.Versions.{pick}
use Rattle.std.specs.declared.cmp.Ordering.{Ordering}
use Rattle.std.specs.declared.cmp.Ordering.TheVariants.{Less, Greater}

abbrev pub middle : ℕ → ℕ → ℕ
middle low high = low + (high - low) / 2

unfoldable pub bisect : (ℕ → Bool) → ℕ → ℕ → ℕ → ℕ
bisect p zero low high = low
bisect p (suc n) low high =
    pick (nat_lt low high) (pick (p (middle low high)) (bisect p n (middle low high + 1) high) (bisect p n low (middle low high))) low

unfoldable pub compare : (ℕ → ℕ) → (ℕ → ℕ) → ℕ → ℕ → Ordering → Ordering
compare f g zero k tie = tie
compare f g (suc n) k tie = pick (nat_lt (f k) (g k)) Less (pick (nat_lt (g k) (f k)) Greater (compare f g n (k + 1) tie))
