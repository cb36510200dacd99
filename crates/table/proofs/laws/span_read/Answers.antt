use Rattle.table.proofs.StreamLaws.{span_read}
use Rattle.table.proofs.laws.span_read.Goals as goal

pub returns : goal.returns
returns c = span_read
