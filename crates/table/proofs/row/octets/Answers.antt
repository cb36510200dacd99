use Rattle.std.proofs.Common.{◌%◌, get_or, rules, sym}
use Rattle.value.proofs.FromFnLaws.{made_is}
use Rattle.table.specs.Row.{octets}
use Rattle.table.proofs.RowLaws.{length_octets, octet_at}
use Rattle.table.proofs.row.octets.Goals as goal

pub returns : goal.returns
returns g c =
    let row = c.args.row.now in
    made_is _ (λ i. get_or row i 0 % 256) _ (λ i y q k. search rules) _ (octets g.row.N row) g.row.N c.from_fn.ensures.items (length_octets g.row.N row) (λ k lt. sym (octet_at g.row.N row k lt))
