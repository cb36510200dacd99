use Rattle.std.proofs.Common.{get_or, rules, sym}
use Rattle.value.proofs.FromFnLaws.{made_is}
use Rattle.table.specs.Stream.{payload}
use Rattle.table.proofs.StreamLaws.{length_payload}
use Rattle.table.proofs.FillLaws.{payload_byte}
use Rattle.table.proofs.row.payload_words.Goals as goal

pub returns : goal.returns
returns c =
    let page = c.args.page.now in
    made_is _ (λ i. get_or page i 0) _ (λ i y q k. search rules) _ (payload page) 504 c.from_fn.ensures.items (length_payload page) (λ k lt. sym (payload_byte page k lt))
