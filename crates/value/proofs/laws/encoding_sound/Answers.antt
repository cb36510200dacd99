use Rattle.value.proofs.ListLaws.{encoding_sound}
use Rattle.value.proofs.laws.encoding_sound.Goals as goal

pub returns : goal.returns
returns c = encoding_sound
