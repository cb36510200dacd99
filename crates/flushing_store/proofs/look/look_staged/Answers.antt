use Rattle.std.proofs.Common.{ap, ◌∙◌}
use Rattle.store.specs.Regions.{region}
use Rattle.flushing_store.specs.Look.{looked}
use Rattle.flushing_store.proofs.look.look_staged.Goals as goal

pub returns : goal.returns
unfolding region
returns c = c.look.ensures ∙ ap (λ k. looked c.args.lookup c.args.extent c.args.row.now k c.args.moment) (c.as_slice.ensures ∙ c.read_key-key.ensures)
