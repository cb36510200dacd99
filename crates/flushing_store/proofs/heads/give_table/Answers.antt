use Rattle.std.proofs.Common.{ap, ◌∙◌}
use Rattle.value.specs.Said.{said}
use Rattle.table.specs.Cursor.{advanced}
use Rattle.store.specs.Regions.{region}
use Rattle.flushing_store.proofs.RoundLaws.{table_none, table_some}
use Rattle.flushing_store.proofs.heads.give_table.Goals as goal

pub returns-in_default : goal.returns-in_default
returns-in_default c =
    let m = c.args.memory.now in
    let pl = c.args.place in
    let p = table_none c.args.control m (said c.version_of.result) c.give.result c.give.ensures.writer c.give.new.memory c.give.ensures.memory c.args.block.now pl c.version_of.ensures c.in_default.is in
    record { turn = p.0; memory = p.1 }

pub returns : goal.returns
unfolding region
returns c =
    let m = c.args.memory.now in
    let pl = c.args.place in
    let p = table_some c.args.control m (said c.version_of.result) c.give.result c.give.ensures.writer c.give.new.memory c.give.ensures.memory c.args.block.now pl c.in-Some.writer c.advance.result c.version_of.ensures c.in-Some.is
    (c.advance.ensures ∙ ap (λ x. advanced c.args.control.merging.cursor x pl) c.entry-entry.ensures) in
    record { turn = p.0; memory = p.1 }
