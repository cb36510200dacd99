use Rattle.value.proofs.ListLaws.{lists_read_back}
use Rattle.value.proofs.laws.lists_read_back.Goals as goal

pub returns : goal.returns
returns c = lists_read_back
