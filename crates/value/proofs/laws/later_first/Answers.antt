use Rattle.value.proofs.LatestLaws.{later_first}
use Rattle.value.proofs.laws.later_first.Goals as goal

pub returns : goal.returns
returns c = later_first
