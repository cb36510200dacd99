use Rattle.std.proofs.Common.{rules}
use Rattle.merge.proofs.StreamLaws.{passed_by}
use Rattle.merge.proofs.stream.Passed.has.Goals as goal

pub returns-then-self : goal.returns-then-self
returns-then-self c = search (rules, passed_by)
