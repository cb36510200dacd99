use Rattle.manifest.specs.Manifest.{words_from, manifest_in}
use Rattle.manifest.proofs.page.decode.Goals as goal

pub returns : goal.returns
unfolding words_from manifest_in
returns c = simp (c.from.ensures, c.words_in-words.ensures)
