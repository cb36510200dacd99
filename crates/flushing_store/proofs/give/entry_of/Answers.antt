use Rattle.std.proofs.Common.{◌≡◌, [], ◌∷◌, get_or, ◌∙◌}
use Rattle.value.specs.Numbers.{bytes_of}
use Rattle.value.proofs.NumberLaws.{bytes_8}
use Rattle.table.specs.Layout.{entry}
use Rattle.flushing_store.proofs.give.entry_of.Goals as goal

pub returns : goal.returns
unfolding bytes_of entry
returns c =
    let b : c.to_le_bytes-b.result ≡ bytes_of 8 c.args.block.begin = c.to_le_bytes-b.ensures ∙ bytes_8 c.args.block.begin in
    let n : c.to_le_bytes-n.result ≡ bytes_of 8 c.args.block.used = c.to_le_bytes-n.ensures ∙ bytes_8 c.args.block.used in
    (λ i. get_or (b i) 0 0 ∷ get_or (b i) 1 0 ∷ get_or (b i) 2 0 ∷ get_or (b i) 3 0 ∷ get_or (n i) 0 0 ∷ get_or (n i) 1 0 ∷ get_or (n i) 2 0 ∷ get_or (n i) 3 0 ∷ [])
