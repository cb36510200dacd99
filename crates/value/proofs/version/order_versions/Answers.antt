use Rattle.std.proofs.Common.{ap, ◌∙◌}
use Rattle.std.specs.Ordering.{ordering_then}
use Rattle.value.specs.Encoding.{version_at}
use Rattle.value.proofs.OrderLaws.{versions_said}
use Rattle.value.proofs.version.order_versions.Goals as goal

pub returns : goal.returns
returns c =
    c.then.ensures
    ∙ ap (ordering_then c.order.result) c.cmp.ensures
    ∙ versions_said (version_at c.args.row_a.now c.args.place_a) (version_at c.args.row_b.now c.args.place_b) _ _ _ c.key_of.ensures c.key_of-2.ensures c.order.ensures
