use Rattle.table.proofs.SearchLaws.{heads_rise}
use Rattle.table.proofs.laws.heads_rise.Goals as goal

pub returns : goal.returns
returns c = heads_rise
