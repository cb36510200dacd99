use Rattle.std.proofs.Common.{sym, ◌∙◌}
use Rattle.store.specs.Control.{region}
use Rattle.store.proofs.GetLaws.{nothing_found, gone_found, value_found}
use Rattle.store.proofs.get.get.Goals as goal

pub returns-in-default : goal.returns-in-default
returns-in-default c = nothing_found c.args.control c.args.memory.now c.args.key.now c.args.out.now c.args.moment (sym c.find.ensures ∙ c.in-default.is)

pub returns-then-is-gone : goal.returns-then-is-gone
unfolding region
returns-then-is-gone c =
    gone_found c.args.control c.args.memory.now c.args.key.now c.args.out.now c.args.moment c.in-Some.place (sym c.find.ensures ∙ c.in-Some.is) (sym c.if-is-gone.ensures)

pub returns : goal.returns
unfolding region
returns c =
    value_found c.args.control c.args.memory.now c.args.key.now c.args.out.now _ _ c.args.moment c.in-Some.place _ (sym c.find.ensures ∙ c.in-Some.is)
    (sym c.if-is-gone.ensures) c.save.ensures c.write-row-len.ensures.len c.write-row-len.ensures.row
