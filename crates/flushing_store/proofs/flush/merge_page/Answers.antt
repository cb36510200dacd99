use Rattle.flushing_store.proofs.FlushLaws.{merge_at}
use Rattle.flushing_store.proofs.flush.merge_page.Goals as goal

pub returns : goal.returns
returns c =
    merge_at c.take_table_page-control.result _ c.take_table_page-control.new.memory _ c.args.out.now _ _ _ c.take_table_page-control.ensures.state c.take_table_page-control.ensures.memory c.merge_on.ensures
