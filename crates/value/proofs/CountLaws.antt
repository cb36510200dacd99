-- The smaller of two counts is the library's minimum.
use Rattle.std.proofs.Common.{◌≡◌, ℕ, min, arith}
use Rattle.std.proofs.lemmas.Bool.Decides.{nat_tests}
use Rattle.value.specs.Count.{smaller}

pub smaller_is_min : (a b : ℕ) → min a b ≡ smaller a b
smaller_is_min a b = grind (arith, nat_tests)
