use Rattle.std.proofs.Common.{rules}
use Rattle.memtable.proofs.StepLaws.{after_none, index_none, index_whole, arena_none, arena_whole}
use Rattle.memtable.proofs.memtable.Memtable.insert.Goals as goal

pub returns-then-not-accepts : goal.returns-then-not-accepts
returns-then-not-accepts c = record { table = search (rules, after_none); index = search (rules, index_none); arena = search (rules, arena_none) }

pub returns-clause-index : goal.returns-clause-index
returns-clause-index c = search (rules, index_whole)

pub returns-clause-arena : goal.returns-clause-arena
returns-clause-arena c = search (rules, arena_whole)
