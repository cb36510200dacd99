use Rattle.table.proofs.LoadLaws.{load_goes_on}
use Rattle.table.proofs.laws.load_goes_on.Goals as goal

pub returns : goal.returns
returns c = load_goes_on
