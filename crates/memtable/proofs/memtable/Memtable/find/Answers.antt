use Rattle.std.proofs.Common.{ap, ◌∙◌, arith}
use Rattle.std.specs.Bool.{then_some}
use Rattle.memtable.proofs.StepLaws.{found_none, found_by}
use Rattle.value.proofs.CountLaws.{smaller_is_min}
use Rattle.memtable.proofs.memtable.Memtable.find.Goals as goal

pub returns-then-i-min : goal.returns-then-i-min
returns-then-i-min c = found_none _ _ _ _ _ _ c.seek-i.ensures.is (omega (arith, smaller_is_min))

pub returns : goal.returns
returns c =
    c.then_some.ensures ∙ ap (λ b. then_some b c.place_at-place.result) c.is_eq.ensures
    ∙ found_by _ _ _ _ _ _ _ _ c.seek-i.ensures.is (omega (arith, smaller_is_min)) c.place_at-place.ensures c.order_at.ensures
