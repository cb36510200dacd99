use Rattle.std.proofs.Common.{◌++◌, drop, ap, ◌∙◌, arith, length-take}
use Rattle.flushing_store.proofs.OctetLaws.{octets_same}
use Rattle.flushing_store.proofs.put.tell_page.Goals as goal

pub returns : goal.returns
returns c = ap (λ x. x ++ drop 512 c.args.out.now) (c.widen_into.ensures ∙ octets_same _ c.args.page.now c.fits-page (omega (arith, length-take 512 c.args.out.now)))
