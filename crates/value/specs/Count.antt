-- Counts and their bounds.
use Rattle.std.specs.Prelude.{ℕ, nat_lt}
use Rattle.value.specs.Versions.{pick}

abbrev pub smaller : ℕ → ℕ → ℕ
smaller a b = pick (nat_lt a b) a b
