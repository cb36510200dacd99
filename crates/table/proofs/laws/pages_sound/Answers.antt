use Rattle.table.proofs.StreamLaws.{pages_sound}
use Rattle.table.proofs.laws.pages_sound.Goals as goal

pub returns : goal.returns
returns c = pages_sound
