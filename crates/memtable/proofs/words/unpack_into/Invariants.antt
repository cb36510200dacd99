use Rattle.std.proofs.Common.{◌≡◌, take}
use Rattle.memtable.specs.Words.{row}
use Rattle.memtable.proofs.WordLaws.{laid_so_far}
use Rattle.memtable.proofs.words.unpack_into.Given as goal

abbrev pub invariant-loop-i : goal.invariant-loop-i
invariant-loop-i l = l.b-items ≡ laid_so_far (row l.ws l.place l.s l.n) (take l.m l.fn.out) l.i
