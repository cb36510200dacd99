use Rattle.std.proofs.Common.{◌∙◌, ap, arith, sym}
use Rattle.memtable.specs.Loops.{bisect}
use Rattle.memtable.specs.Memtable.{seek_place, ahead_at}
use Rattle.memtable.proofs.LoopLaws.{bisect_low, bisect_high, bisect_done}
use Rattle.value.proofs.CountLaws.{smaller_is_min}
use Rattle.memtable.proofs.memtable.Memtable.seek.Goals as goal

pub search-preserved-then-is_ahead : goal.search-preserved-then-is_ahead
search-preserved-then-is_ahead c = (bisect_low _ 63 _ _ (omega arith) c.search-test.true c.if-is_ahead.ensures ∙ c.search.invariant.0, omega arith, omega arith)

pub search-preserved : goal.search-preserved
search-preserved c = (bisect_high _ 63 _ _ (omega arith) c.search-test.true c.if-is_ahead.ensures ∙ c.search.invariant.0, omega arith, omega arith)

pub returns-clause-is : goal.returns-clause-is
unfolding seek_place
returns-clause-is c =
    sym (bisect_done _ 64 _ _ c.search-test.false) ∙ c.search.invariant.0
    ∙ ap (bisect (ahead_at c.args.index.now c.args.arena.now c.args.key.now c.args.moment) 64 0) (c.min-high.ensures ∙ smaller_is_min _ _)
