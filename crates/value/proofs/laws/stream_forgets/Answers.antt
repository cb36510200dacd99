use Rattle.value.proofs.ForgettingLaws.{forget_right}
use Rattle.value.proofs.laws.stream_forgets.Goals as goal

pub returns : goal.returns
returns c = forget_right
