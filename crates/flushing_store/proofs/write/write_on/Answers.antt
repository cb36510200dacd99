use Rattle.flushing_store.proofs.WriteLaws.{write_asks, write_ends}
use Rattle.flushing_store.proofs.write.write_on.Goals as goal

pub returns-then-lookup : goal.returns-then-lookup
returns-then-lookup c =
    write_asks c.args.control c.args.memory.now c.args.page.now _ c.take_page-lookup.new.memory _ c.take_page-lookup.result c.take_page-lookup.ensures.state c.take_page-lookup.ensures.row
    c.if-lookup.true c.ask.ensures

pub returns : goal.returns
returns c =
    write_ends c.args.control c.args.memory.now c.args.page.now _ c.take_page-lookup.new.memory _ c.take_page-lookup.result c.take_page-lookup.ensures.state c.take_page-lookup.ensures.row
    c.if-lookup.false c.end_look.ensures
