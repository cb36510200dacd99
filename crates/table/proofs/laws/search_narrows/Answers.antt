use Rattle.table.proofs.SearchLaws.{search_narrows}
use Rattle.table.proofs.laws.search_narrows.Goals as goal

pub returns : goal.returns
returns c = search_narrows
