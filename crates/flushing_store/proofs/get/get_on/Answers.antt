use Rattle.flushing_store.proofs.GetLaws.{get_asks, get_ends}
use Rattle.flushing_store.proofs.get.get_on.Goals as goal

pub returns-then-lookup : goal.returns-then-lookup
returns-then-lookup c =
    get_asks c.args.control c.args.memory.now c.args.page.now c.args.out.now _ c.take_page-lookup.new.memory _ c.args.out.now c.take_page-lookup.result c.take_page-lookup.ensures.state
    c.take_page-lookup.ensures.row c.if-lookup.true c.ask.ensures

pub returns : goal.returns
returns c =
    get_ends c.args.control c.args.memory.now c.args.page.now c.args.out.now _ c.take_page-lookup.new.memory _ _ c.take_page-lookup.result c.take_page-lookup.ensures.state
    c.take_page-lookup.ensures.row c.if-lookup.false c.end_get.ensures
