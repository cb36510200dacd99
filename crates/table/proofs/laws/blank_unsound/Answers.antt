use Rattle.table.proofs.SumLaws.{blank_unsound}
use Rattle.table.proofs.laws.blank_unsound.Goals as goal

pub returns : goal.returns
returns c = blank_unsound
