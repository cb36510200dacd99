use Rattle.std.proofs.Common.{length, sym, ap, ◌∙◌, arith}
use Rattle.std.proofs.lemmas.List.{length-take-le}
use Rattle.value.proofs.PaddedLaws.{length_padded}
use Rattle.table.proofs.FillLaws.{payload_padded, filled_other, filled_page}
use Rattle.table.proofs.page.fill.Goals as goal

pub returns-then-page-ne512 : goal.returns-then-page-ne512
returns-then-page-ne512 c = filled_other c.args.bytes.now c.args.page.now c.if-page-ne512.true

pub slice_bounds-copy_from_slice-end-2 : goal.slice_bounds-copy_from_slice-end-2
slice_bounds-copy_from_slice-end-2 c = sym (length-take-le 504 c.args.page.now (omega arith))

pub copy_from_slice-requires : goal.copy_from_slice-requires
copy_from_slice-requires c =
    length-take-le 504 c.args.page.now (omega arith) ∙ sym (ap length c.padded.ensures ∙ length_padded 504 c.args.bytes.now)

pub returns : goal.returns
returns c =
    filled_page c.args.bytes.now c.args.page.now _ _ c.if-page-ne512.false (c.copy_from_slice.ensures.after ∙ c.padded.ensures ∙ payload_padded c.args.bytes.now) c.seal.ensures
