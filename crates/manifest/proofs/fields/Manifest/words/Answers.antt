use Rattle.std.proofs.Common.{◌∙◌}
use Rattle.manifest.specs.Manifest.{words_of}
use Rattle.manifest.proofs.PageLaws.{flag_is}
use Rattle.manifest.proofs.fields.Manifest.words.Goals as goal

pub returns : goal.returns
unfolding words_of
returns c = simp (c.from.ensures, c.from-2.ensures ∙ flag_is c.args.self.weight.exact, c.pair.ensures, c.pair-2.ensures)
