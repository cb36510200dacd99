use Rattle.std.proofs.Common.{◌≡◌, ℕ, ◌<◌, get_or}
use Rattle.answers.proofs.row.page_of.Given as goal

-- the bytes so far are the numbers so far
abbrev pub invariant-loop-i : goal.invariant-loop-i
invariant-loop-i l = (k : ℕ) → k < l.i → get_or l.b-items k 0 ≡ get_or l.out k 0
