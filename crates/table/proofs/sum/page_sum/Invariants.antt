use Rattle.std.proofs.Common.{◌≡◌, ◌-◌, ◌*◌, drop}
use Rattle.table.specs.Sum.{page_sum, sum_from}
use Rattle.table.proofs.sum.page_sum.Given as goal

-- what is left gives the sum
abbrev pub invariant-loop-i : goal.invariant-loop-i
invariant-loop-i l = sum_from (63 - l.i) l.h (drop (l.i * 8) l.page) ≡ page_sum l.page
