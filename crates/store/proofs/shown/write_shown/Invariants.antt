use Rattle.std.proofs.Common.{◌≡◌, ℕ, ◌<◌, get_or}
use Rattle.store.specs.Shown.{row_of}
use Rattle.store.proofs.shown.write_shown.Given as goal

-- the numbers so far are the row's
abbrev pub invariant-loop-i : goal.invariant-loop-i
invariant-loop-i l = (k : ℕ) → k < l.i → get_or l.number-items k 0 ≡ get_or (row_of l.key l.value) k 0
