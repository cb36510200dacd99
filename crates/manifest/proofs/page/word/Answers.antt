use Rattle.std.proofs.Common.{arith}
use Rattle.manifest.specs.Manifest.{word_at}
use Rattle.manifest.proofs.page.word.Goals as goal

pub returns : goal.returns
unfolding word_at
returns c = omega (arith, c.read_u64.ensures)
