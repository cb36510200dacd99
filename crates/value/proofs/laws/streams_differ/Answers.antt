use Rattle.value.proofs.UpstreamLaws.{streams_differ}
use Rattle.value.proofs.laws.streams_differ.Goals as goal

pub returns : goal.returns
returns c = streams_differ
