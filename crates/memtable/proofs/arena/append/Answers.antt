use Rattle.std.proofs.Common.{rules, arith}
use Rattle.value.specs.Said.{said}
use Rattle.memtable.proofs.StepLaws.{appended_none, appended_by}
use Rattle.memtable.proofs.arena.append.Goals as goal

pub returns-then-not-has_room : goal.returns-then-not-has_room
returns-then-not-has_room c = search (rules, appended_none)

pub returns : goal.returns
returns c =
    appended_by _ _ _ c.args.used _ _ (said c.args.version) c.if-not-has_room.ensures (omega arith) c.measures_of.ensures c.words_of.ensures c.put_bytes.ensures c.put_bytes-2.ensures
