use Rattle.std.proofs.Common.{length, refl, ◌∙◌, arith, eq-eqb}
use Rattle.manifest.specs.Manifest.{row_of}
use Rattle.manifest.proofs.PageLaws.{row_next, page_written}
use Rattle.manifest.proofs.fields.Manifest.encode.Goals as goal

pub loop-i-init : goal.loop-i-init
unfolding row_of
loop-i-init c = refl

pub loop-i-preserved : goal.loop-i-preserved
loop-i-preserved c =
    c.write_word.ensures
    ∙ row_next c.loop-i.i c.words-words.result c.args.page.now c.loop-i.page (omega arith) c.loop-i.invariant

pub returns : goal.returns
returns c =
    rw (eq-eqb (length c.args.page.now) 512 (omega arith))
    (c.seal.ensures
    ∙ page_written c.args.self c.loop-i.i c.words-words.result c.args.page.now c.loop-i.page (omega arith) (omega arith) c.words-words.ensures (omega arith) c.loop-i.invariant)
