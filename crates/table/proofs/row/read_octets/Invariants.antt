use Rattle.std.proofs.Common.{◌≡◌, ℕ, ◌<◌, length, get_or}
use Rattle.table.specs.Row.{octets}
use Rattle.table.proofs.row.read_octets.Given as goal

-- the bytes so far are the words'
abbrev pub invariant-loop-i : goal.invariant-loop-i
invariant-loop-i l = (k : ℕ) → k < l.i → get_or l.out k 0 ≡ get_or (octets (length l.initial.out) l.row) k 0
