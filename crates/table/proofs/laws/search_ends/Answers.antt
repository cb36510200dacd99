use Rattle.table.proofs.SearchLaws.{search_ends}
use Rattle.table.proofs.laws.search_ends.Goals as goal

pub returns : goal.returns
returns c = search_ends
