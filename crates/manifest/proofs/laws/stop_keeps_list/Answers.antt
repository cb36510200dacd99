use Rattle.manifest.proofs.CommitLaws.{stop_keeps_list}
use Rattle.manifest.proofs.laws.stop_keeps_list.Goals as goal

pub returns : goal.returns
returns c = stop_keeps_list
