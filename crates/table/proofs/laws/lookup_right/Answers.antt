use Rattle.table.proofs.LookupLaws.{lookup_right}
use Rattle.table.proofs.laws.lookup_right.Goals as goal

pub returns : goal.returns
returns c = lookup_right
