use Rattle.std.proofs.Common.{◌≡◌, ◌-◌, ◌≤◌}
use Rattle.memtable.specs.Loops.{bisect}
use Rattle.memtable.specs.Memtable.{ahead_at}
use Rattle.memtable.proofs.memtable.Memtable.seek.Given as goal

abbrev pub invariant-search : goal.invariant-search
invariant-search l =
    (bisect (ahead_at l.index l.arena l.key l.moment) 64 l.low l.high
    ≡ bisect (ahead_at l.index l.arena l.key l.moment) 64 0 l.initial.high)
    × (l.low ≤ l.high) × (l.high ≤ l.initial.high)

abbrev pub decreases-search : goal.decreases-search
decreases-search l = l.high - l.low
