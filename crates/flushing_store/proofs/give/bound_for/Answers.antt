use Rattle.std.proofs.Common.{◌∙◌}
use Rattle.store.specs.Regions.{region}
use Rattle.flushing_store.proofs.GiveLaws.{bound_same, bound_other}
use Rattle.flushing_store.proofs.give.bound_for.Goals as goal

pub returns-then-eq : goal.returns-then-eq
unfolding region
returns-then-eq c =
    bound_same c.args.blocks c.args.memory.now c.args.key.now _ c.if-blocks-eq0.false (c.as_slice.ensures ∙ c.read_key.ensures) _ c.if-eq.ensures c.moment_at.ensures

pub returns-else-eq : goal.returns-else-eq
unfolding region
returns-else-eq c = bound_other c.args.blocks c.args.memory.now c.args.key.now _ c.if-blocks-eq0.false (c.as_slice.ensures ∙ c.read_key.ensures) c.if-eq.ensures
