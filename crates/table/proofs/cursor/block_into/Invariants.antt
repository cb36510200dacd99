use Rattle.std.proofs.Common.{◌≡◌, ℕ, ◌<◌, get_or}
use Rattle.table.specs.Cursor.{ringed}
use Rattle.table.proofs.cursor.block_into.Given as goal

-- the bytes so far are the ring's
abbrev pub invariant-loop-i : goal.invariant-loop-i
invariant-loop-i l = (k : ℕ) → k < l.i → get_or l.b-items k 0 ≡ get_or (ringed l.begin l.len l.ring) k 0
