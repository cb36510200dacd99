use Rattle.std.proofs.Common.{◌≡◌, ◌+◌, ◌-◌, ◌*◌, ◌∙◌, arith}
use Rattle.value.proofs.NumberLaws.{bytes_8, length_bytes_of}
use Rattle.manifest.proofs.page.write_word.Goals as goal

pub returns : goal.returns
returns c =
    let n : 8 * c.args.i + 8 - 8 * c.args.i ≡ 8 = omega arith in
    let e = c.copy_from_slice.ensures.after ∙ c.to_le_bytes.ensures ∙ bytes_8 c.args.x in
    simp (n, e, length_bytes_of)
