use Rattle.manifest.proofs.CommitLaws.{blank_is_empty}
use Rattle.manifest.proofs.laws.blank_is_empty.Goals as goal

pub returns : goal.returns
returns c = blank_is_empty
