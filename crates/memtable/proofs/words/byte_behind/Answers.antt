use Rattle.std.proofs.Common.{rules}
use Rattle.memtable.specs.Words.{byte_behind}
use Rattle.memtable.proofs.words.byte_behind.Goals as goal

pub returns : goal.returns
unfolding byte_behind
returns c = search rules
