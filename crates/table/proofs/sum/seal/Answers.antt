use Rattle.std.proofs.Common.{◌∙◌, arith}
use Rattle.value.proofs.NumberLaws.{bytes_8}
use Rattle.table.proofs.SumLaws.{sealed_long, sealed_short}
use Rattle.table.proofs.sum.seal.Goals as goal

pub returns-then-page-ge512 : goal.returns-then-page-ge512
returns-then-page-ge512 c =
    sealed_long c.args.page.now _ c.page_sum-sum.result (omega arith) c.page_sum-sum.ensures (c.copy_from_slice.ensures.after ∙ c.to_le_bytes.ensures ∙ bytes_8 c.page_sum-sum.result)

pub returns-else-page-ge512 : goal.returns-else-page-ge512
returns-else-page-ge512 c = sealed_short c.args.page.now (omega arith)
