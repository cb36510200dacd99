use Rattle.value.proofs.SortLaws.{lookup_right}
use Rattle.value.proofs.laws.lookup_is_latest.Goals as goal

pub returns : goal.returns
returns c = lookup_right
