use Rattle.std.proofs.Common.{rules}
use Rattle.memtable.proofs.StepLaws.{ahead_by}
use Rattle.memtable.proofs.memtable.is_ahead.Goals as goal

pub returns : goal.returns
returns c = search (rules, ahead_by)
