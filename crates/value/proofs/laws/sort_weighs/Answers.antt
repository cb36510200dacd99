use Rattle.value.proofs.SortLaws.{sort_weighs}
use Rattle.value.proofs.laws.sort_weighs.Goals as goal

pub returns : goal.returns
returns c = sort_weighs
