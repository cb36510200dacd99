use Rattle.std.proofs.Common.{◌+◌, take, sym, ap, ◌∙◌}
use Rattle.std.proofs.lemmas.List.{length-replicate}
use Rattle.memtable.specs.Words.{words}
use Rattle.memtable.specs.Arena.{key_length, value_length, value_at}
use Rattle.memtable.proofs.WordLaws.{length_row}
use Rattle.store.proofs.LaidLaws.{take_laid}
use Rattle.store.proofs.bytes.read_value.Goals as goal

pub returns : goal.returns
returns g c =
    let a = c.args.arena.now in
    let p = c.args.place in
    let l = length_row a p (2 + words (key_length a p)) (value_length a p) in
    ap (take c.value_len.result) c.value_into.ensures ∙ take_laid (value_at a p) _ c.value_len.result (c.value_len.ensures ∙ sym l)
    ∙ ap (λ n. take n (value_at a p)) (length-replicate _ _)
