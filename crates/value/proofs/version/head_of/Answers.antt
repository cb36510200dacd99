use Rattle.std.proofs.Common.{◌≡◌, ◌+◌, refl, ap, ◌∙◌}
use Rattle.value.specs.Numbers.{bytes_of}
use Rattle.value.specs.Encoding.{mark, head}
use Rattle.value.proofs.NumberLaws.{bytes_8}
use Rattle.value.proofs.version.head_of.Goals as goal
use Rattle.value.proofs.version.head_of.Goals.{then-gone, else-gone}

pub returns : goal.returns
unfolding bytes_of head
returns c =
    let kind : c.if-gone.kind + c.args.value_len ≡ mark c.args.gone c.args.value_len =
    elim c.if-gone.branch [ then-gone w ↦ simp (w.if-gone.true, w.kind-is) | else-gone w ↦ simp (w.if-gone.false, w.kind-is) ] in
    let m : c.copy_from_slice.new.self ≡ bytes_of 8 c.args.moment = c.copy_from_slice.ensures.after ∙ c.to_le_bytes.ensures ∙ bytes_8 c.args.moment in
    let k : c.copy_from_slice-2.new.self ≡ bytes_of 2 (mark c.args.gone c.args.value_len) = c.copy_from_slice-2.ensures.after ∙ c.to_le_bytes-2.ensures ∙ ap (bytes_of 2) kind in
    rw (m, k) refl
