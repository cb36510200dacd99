use Rattle.std.proofs.Common.{◌++◌, length, drop, ap, ◌∙◌}
use Rattle.store.proofs.ShownLaws.{read_is_at}
use Rattle.store.proofs.shown.write_row.Goals as goal

pub returns : goal.returns
returns c =
    let e = read_is_at c.args.arena.now c.as_slice.result.now c.as_slice-2.result.now c.args.place (c.as_slice.ensures ∙ c.read_key-key.ensures) (c.as_slice-2.ensures ∙ c.read_value-value.ensures) in
    record {
      len = c.write_shown.ensures.len ∙ ap length e;
      row = c.write_shown.ensures.row ∙ ap (λ x. x ++ drop (length x) c.args.out.now) e;
    }
