use Rattle.flushing_store.specs.Control.{base, merging, control}
use Rattle.flushing_store.specs.declared.control.Phase.TheVariants.{Merging}
use Rattle.flushing_store.proofs.FlushLaws.{flush_none, flush_some}
use Rattle.flushing_store.proofs.flush.flush.Goals as goal

pub returns-then-control-eq0 : goal.returns-then-control-eq0
returns-then-control-eq0 c = flush_none c.args.control c.args.memory.now c.args.out.now c.if-control-eq0.true

pub returns : goal.returns
returns c =
    let k = c.args.control in
    flush_some k _ c.args.memory.now c.args.out.now _ _ _ c.if-control-eq0.false
    (λ i. control (base Merging k.base.pages k.base.last k.base.table) k.manifest k.lookup (merging (c.new.ensures i) (c.new-2.ensures i) 0 0)) c.merge_on.ensures
