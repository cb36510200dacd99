use Rattle.std.proofs.Common.{◌≡◌, ◌-◌, length}
use Rattle.memtable.specs.Words.{packed_word}
use Rattle.memtable.specs.Arena.{key_word, by_length, order_at}
use Rattle.memtable.specs.Loops.{compare}
use Rattle.memtable.proofs.arena.order_at.Given as goal

abbrev pub invariant-loop-k : goal.invariant-loop-k
invariant-loop-k l =
    compare (key_word l.arena l.place) (packed_word l.key) (l.n - l.k) l.k (by_length l.length (length l.key))
    ≡ order_at l.arena l.place l.key
