use Rattle.std.proofs.Common.{◌++◌, drop, refl, ap, ◌∙◌}
use Rattle.table.specs.Stream.{sealed}
use Rattle.flushing_store.proofs.OctetLaws.{page_filled}
use Rattle.flushing_store.proofs.put.put_page.Goals as goal

pub returns : goal.returns
returns c =
    let bytes = c.as_slice.ensures ∙ c.page_octets.ensures in
    c.tell_page.ensures ∙ ap (λ p. p ++ drop 512 c.args.out.now) (c.fill.ensures ∙ page_filled c.as_slice.result.now _ refl ∙ ap sealed bytes)
