use Rattle.std.proofs.Common.{◌+◌, ◌*◌, ◌%◌, ◌^◌, sym, ap, ◌∙◌, arith}
use native.Mathlib.Nat.{mod-add-mod}
use Rattle.table.proofs.SumLaws.{sum_more, sum_none, sum_all}
use Rattle.table.proofs.sum.page_sum.Goals as goal

pub loop-i-init : goal.loop-i-init
loop-i-init c = sum_none c.args.page.now

pub loop-i-preserved : goal.loop-i-preserved
loop-i-preserved c =
    sym (sum_more c.loop-i.i c.loop-i.h _ c.args.page.now (omega arith)
    (mod-add-mod (c.loop-i.h * 6364136223846793005) (2 ^ 64) c.read_u64.result ∙ ap (λ w. (c.loop-i.h * 6364136223846793005 + w) % 2 ^ 64) c.read_u64.ensures))
    ∙ c.loop-i.invariant

pub returns : goal.returns
returns c = sym (sum_all c.loop-i.i c.loop-i.h c.args.page.now (omega arith)) ∙ c.loop-i.invariant
