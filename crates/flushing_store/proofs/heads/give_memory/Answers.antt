use Rattle.std.proofs.Common.{◌∙◌}
use Rattle.value.specs.Versions.{version}
use Rattle.store.specs.Regions.{region, arena_of}
use Rattle.flushing_store.proofs.VersionReads.{version_read}
use Rattle.flushing_store.proofs.RoundLaws.{memory_none, memory_some}
use Rattle.flushing_store.proofs.heads.give_memory.Goals as goal

pub returns-in_default : goal.returns-in_default
unfolding region
returns-in_default c =
    let m = c.args.memory.now in
    let v = version c.as_slice.result.now c.moment_at-moment.result c.is_gone-gone.result c.as_slice-2.result.now in
    let e = version_read (arena_of m) c.args.at c.as_slice.result.now c.moment_at-moment.result c.is_gone-gone.result c.as_slice-2.result.now
    (c.as_slice.ensures ∙ c.read_key-key.ensures) c.moment_at-moment.ensures c.is_gone-gone.ensures (c.as_slice-2.ensures ∙ c.read_value-value.ensures) in
    let p = memory_none c.args.control m v c.give.result c.give.ensures.writer c.give.new.memory c.give.ensures.memory c.args.at e c.in_default.is in
    record { turn = p.0; memory = p.1 }

pub returns : goal.returns
unfolding region
returns c =
    let m = c.args.memory.now in
    let v = version c.as_slice.result.now c.moment_at-moment.result c.is_gone-gone.result c.as_slice-2.result.now in
    let e = version_read (arena_of m) c.args.at c.as_slice.result.now c.moment_at-moment.result c.is_gone-gone.result c.as_slice-2.result.now
    (c.as_slice.ensures ∙ c.read_key-key.ensures) c.moment_at-moment.ensures c.is_gone-gone.ensures (c.as_slice-2.ensures ∙ c.read_value-value.ensures) in
    let p = memory_some c.args.control m v c.give.result c.give.ensures.writer c.give.new.memory c.give.ensures.memory c.args.at c.in-Some.writer e c.in-Some.is in
    record { turn = p.0; memory = p.1 }
