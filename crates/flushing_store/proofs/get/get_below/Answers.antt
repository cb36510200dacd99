use Rattle.std.proofs.Common.{sym, ap, ◌∙◌, arith}
use Rattle.std.proofs.lemmas.Bool.Decides.{nat_tests}
use Rattle.table.specs.Lookup.{begun}
use Rattle.flushing_store.proofs.GetLaws.{no_key, no_block, looks_below}
use Rattle.flushing_store.proofs.get.get_below.Goals as goal

pub returns-then-key-lt1 : goal.returns-then-key-lt1
returns-then-key-lt1 c = no_key c.args.control c.args.memory.now c.args.key.now c.args.moment (grind (arith, nat_tests))

pub returns-in_default : goal.returns-in_default
returns-in_default c =
    no_block c.args.control c.args.memory.now c.args.key.now c.args.moment (grind (arith, nat_tests)) (sym (c.begin.ensures ∙ ap begun c.extent_of.ensures) ∙ c.in_default.is)

pub returns : goal.returns
returns c =
    looks_below c.args.control c.args.memory.now c.args.key.now c.args.moment c.in-Some.lookup c.stage.new.memory _ _ (grind (arith, nat_tests))
    (sym (c.begin.ensures ∙ ap begun c.extent_of.ensures) ∙ c.in-Some.is) c.stage.ensures c.ask.ensures
