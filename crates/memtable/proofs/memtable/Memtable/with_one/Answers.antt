use Rattle.std.proofs.Common.{arith, rules}
use Rattle.memtable.proofs.StepLaws.{after_none, after_whole, countable}
use Rattle.memtable.proofs.memtable.Memtable.with_one.Goals as goal

pub one_more-requires : goal.one_more-requires
one_more-requires c =
    countable c.args.self c.args.index c.args.arena c.args.k c.args.v (omega (arith, c.ranges.index)) (omega (arith, c.ranges.arena))
    c.if-accepts.ensures

pub returns-then-accepts : goal.returns-then-accepts
returns-then-accepts c = search (rules, after_whole)

pub returns-else-accepts : goal.returns-else-accepts
returns-else-accepts c = search (rules, after_none)
