use Rattle.std.proofs.Common.{inl, inr, arith}
use Rattle.manifest.proofs.PageLaws.{words_read}
use Rattle.manifest.proofs.page.words_in.Goals as goal

pub returns-after-words : goal.returns-after-words
returns-after-words c =
    words_read c.words.i c.words.words c.args.page.now c.words.invariant.0 (inl (omega arith)) c.words.invariant.1 c.words.invariant.2

pub returns-then-i-page : goal.returns-then-i-page
returns-then-i-page c =
    words_read c.words.i c.words.words c.args.page.now c.words.invariant.0 (inr (omega arith)) c.words.invariant.1 c.words.invariant.2
