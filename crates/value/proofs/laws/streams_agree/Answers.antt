use Rattle.value.proofs.UpstreamLaws.{streams_agree}
use Rattle.value.proofs.laws.streams_agree.Goals as goal

pub returns : goal.returns
returns c = streams_agree
