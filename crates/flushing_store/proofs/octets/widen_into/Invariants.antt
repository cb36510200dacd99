use Rattle.std.proofs.Common.{◌≡◌, ℕ, ◌<◌, length, get_or}
use Rattle.table.specs.Row.{octets}
use Rattle.flushing_store.proofs.octets.widen_into.Given as goal

-- the words so far are the bytes'
abbrev pub invariant-loop-i : goal.invariant-loop-i
invariant-loop-i l = (k : ℕ) → k < l.i → get_or l.row k 0 ≡ get_or (octets (length l.initial.row) l.bytes) k 0
