use Rattle.std.proofs.Common.{take, sym, ap, ◌∙◌, arith}
use Rattle.std.proofs.lemmas.List.{take_all}
use Rattle.memtable.specs.Arena.{key_length, key_at}
use Rattle.memtable.proofs.WordLaws.{length_row}
use Rattle.store.proofs.LaidLaws.{take_laid}
use Rattle.store.proofs.bytes.read_key.Goals as goal

pub returns : goal.returns
returns c =
    let a = c.args.arena.now in
    let p = c.args.place in
    let l = length_row a p 2 (key_length a p) in
    ap (take c.key_len.result) c.key_into.ensures ∙ take_laid (key_at a p) _ c.key_len.result (c.key_len.ensures ∙ sym l)
    ∙ take_all 255 (key_at a p) (omega (arith, l))
