use Rattle.std.proofs.Common.{sym, ◌∙◌}
use Rattle.store.specs.Regions.{region}
use Rattle.flushing_store.proofs.GetLaws.{nothing_found, gone_found, value_found}
use Rattle.flushing_store.proofs.get.get.Goals as goal

pub returns-in_default : goal.returns-in_default
returns-in_default c =
    nothing_found c.args.control c.args.memory.now c.args.key.now c.args.moment c.args.out.now c.get_below.result c.get_below.new.memory (sym c.find.ensures ∙ c.in_default.is) c.get_below.ensures

pub returns-then-is_gone : goal.returns-then-is_gone
unfolding region
returns-then-is_gone c =
    gone_found c.args.control c.args.memory.now c.args.key.now c.args.moment c.args.out.now c.in-Some.place (sym c.find.ensures ∙ c.in-Some.is) (sym c.if-is_gone.ensures)

pub returns : goal.returns
unfolding region
returns c =
    value_found c.args.control c.args.memory.now c.args.key.now c.args.moment c.args.out.now _ _ c.in-Some.place _ (sym c.find.ensures ∙ c.in-Some.is)
    (sym c.if-is_gone.ensures) c.turn_to.ensures c.write_row-len.ensures.len c.write_row-len.ensures.row
