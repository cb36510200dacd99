-- An event that is taken.
use Rattle.std.proofs.Common.{◌≡◌, ℕ, ◌≤◌, true, List, length, arith}
use Rattle.std.proofs.lemmas.Bool.Decides.{nat_tests}
use Rattle.store.specs.Event.{event_fits}

pub fits : (kind : ℕ) (as₁ bs : List ℕ) → kind ≤ 12 → length as₁ ≤ 4096 → length bs ≤ 4096 → true ≡ event_fits kind as₁ bs
fits kind as₁ bs k a b = grind (arith, nat_tests)
