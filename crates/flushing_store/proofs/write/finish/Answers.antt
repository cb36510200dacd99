use Rattle.std.proofs.Common.{◌∙◌}
use Rattle.value.specs.Versions.{version}
use Rattle.flushing_store.specs.Control.{stage_region}
use Rattle.store.specs.Regions.{region}
use Rattle.flushing_store.proofs.VersionReads.{version_read, finishes}
use Rattle.flushing_store.proofs.write.finish.Goals as goal

pub returns : goal.returns
unfolding region
returns c =
    let m = c.turn_to.new.memory in
    let v = version c.as_slice.result.now c.moment_at-moment.result c.is_gone-gone.result c.as_slice-2.result.now in
    let e = version_read (stage_region m) 0 c.as_slice.result.now c.moment_at-moment.result c.is_gone-gone.result c.as_slice-2.result.now
    (c.as_slice.ensures ∙ c.read_key-key.ensures) c.moment_at-moment.ensures c.is_gone-gone.ensures (c.as_slice-2.ensures ∙ c.read_value-value.ensures) in
    finishes c.args.control c.args.memory.now m c.accept.new.memory c.accept.result v c.turn_to.ensures e c.accept.ensures
