use Rattle.table.proofs.StreamLaws.{stream_back}
use Rattle.table.proofs.laws.stream_back.Goals as goal

pub returns : goal.returns
returns c = stream_back
