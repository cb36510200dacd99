use Rattle.std.proofs.Common.{sym, refl, ◌∙◌}
use Rattle.value.specs.Said.{said}
use Rattle.flushing_store.proofs.WriteLaws.{written_already, no_memory, no_pages, goes_in}
use Rattle.flushing_store.proofs.write.accept.Goals as goal

pub returns-in_default : goal.returns-in_default
returns-in_default c = written_already c.args.control c.args.memory.now (said c.args.version) (sym c.unwritten.ensures ∙ c.in_default.is)

pub returns-in_default-roomy : goal.returns-in_default-roomy
returns-in_default-roomy c =
    no_memory c.args.control c.args.memory.now (said c.args.version) c.in-Some.place (sym c.unwritten.ensures ∙ c.in-Some.is)
    (sym c.roomy.ensures ∙ c.in_default-roomy.is)

pub returns-in_default-within_pages : goal.returns-in_default-within_pages
returns-in_default-within_pages c =
    no_pages c.args.control c.args.memory.now (said c.args.version) c.in-Some.place (sym c.unwritten.ensures ∙ c.in-Some.is)
    c.in-Some-roomy.table (sym c.roomy.ensures ∙ c.in-Some-roomy.is) _ refl (sym c.within_pages.ensures ∙ c.in_default-within_pages.is)

pub returns : goal.returns
returns c =
    goes_in c.args.control c.args.memory.now (said c.args.version) c.in-Some.place (sym c.unwritten.ensures ∙ c.in-Some.is)
    c.in-Some-roomy.table (sym c.roomy.ensures ∙ c.in-Some-roomy.is) _ c.in-Some-within_pages.field-0 refl (sym c.within_pages.ensures ∙ c.in-Some-within_pages.is) _ c.put_version.ensures
