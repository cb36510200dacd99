use Rattle.std.proofs.Common.{sym, ◌∙◌}
use Rattle.value.specs.Said.{said}
use Rattle.store.proofs.WriteLaws.{bad_key, bad_value, bad_moment, too_early, written_already, no_memory, no_pages, goes_in}
use Rattle.store.proofs.write.write.Goals as goal

pub returns-in_default : goal.returns-in_default
returns-in_default c = bad_key c.args.control c.args.memory.now (said c.args.version) (sym c.key_size.ensures ∙ c.in_default.is)

pub returns-in_default-value_size : goal.returns-in_default-value_size
returns-in_default-value_size c = bad_value c.args.control c.args.memory.now (said c.args.version) c.in-Some.key_len (sym c.key_size.ensures ∙ c.in-Some.is) (sym c.value_size.ensures ∙ c.in_default-value_size.is)

pub returns-in_default-proper_moment : goal.returns-in_default-proper_moment
returns-in_default-proper_moment c = bad_moment c.args.control c.args.memory.now (said c.args.version) c.in-Some.key_len (sym c.key_size.ensures ∙ c.in-Some.is) c.in-Some-value_size.value_len (sym c.value_size.ensures ∙ c.in-Some-value_size.is) (sym c.proper_moment.ensures ∙ c.in_default-proper_moment.is)

pub returns-in_default-not_earlier : goal.returns-in_default-not_earlier
returns-in_default-not_earlier c = too_early c.args.control c.args.memory.now (said c.args.version) c.in-Some.key_len (sym c.key_size.ensures ∙ c.in-Some.is) c.in-Some-value_size.value_len (sym c.value_size.ensures ∙ c.in-Some-value_size.is) c.in-Some-proper_moment.moment (sym c.proper_moment.ensures ∙ c.in-Some-proper_moment.is) (sym c.not_earlier.ensures ∙ c.in_default-not_earlier.is)

pub returns-in_default-unwritten : goal.returns-in_default-unwritten
returns-in_default-unwritten c = written_already c.args.control c.args.memory.now (said c.args.version) c.in-Some.key_len (sym c.key_size.ensures ∙ c.in-Some.is) c.in-Some-value_size.value_len (sym c.value_size.ensures ∙ c.in-Some-value_size.is) c.in-Some-proper_moment.moment (sym c.proper_moment.ensures ∙ c.in-Some-proper_moment.is) c.in-Some-not_earlier.moment (sym c.not_earlier.ensures ∙ c.in-Some-not_earlier.is) (sym c.unwritten.ensures ∙ c.in_default-unwritten.is)

pub returns-in_default-roomy : goal.returns-in_default-roomy
returns-in_default-roomy c = no_memory c.args.control c.args.memory.now (said c.args.version) c.in-Some.key_len (sym c.key_size.ensures ∙ c.in-Some.is) c.in-Some-value_size.value_len (sym c.value_size.ensures ∙ c.in-Some-value_size.is) c.in-Some-proper_moment.moment (sym c.proper_moment.ensures ∙ c.in-Some-proper_moment.is) c.in-Some-not_earlier.moment (sym c.not_earlier.ensures ∙ c.in-Some-not_earlier.is) c.in-Some-unwritten.place (sym c.unwritten.ensures ∙ c.in-Some-unwritten.is) (sym c.roomy.ensures ∙ c.in_default-roomy.is)

pub returns-in_default-within_pages : goal.returns-in_default-within_pages
returns-in_default-within_pages c = no_pages c.args.control c.args.memory.now (said c.args.version) c.in-Some.key_len (sym c.key_size.ensures ∙ c.in-Some.is) c.in-Some-value_size.value_len (sym c.value_size.ensures ∙ c.in-Some-value_size.is) c.in-Some-proper_moment.moment (sym c.proper_moment.ensures ∙ c.in-Some-proper_moment.is) c.in-Some-not_earlier.moment (sym c.not_earlier.ensures ∙ c.in-Some-not_earlier.is) c.in-Some-unwritten.place (sym c.unwritten.ensures ∙ c.in-Some-unwritten.is) c.in-Some-roomy.table (sym c.roomy.ensures ∙ c.in-Some-roomy.is) (sym c.within_pages.ensures ∙ c.in_default-within_pages.is)

pub returns : goal.returns
returns c = goes_in c.args.control c.args.memory.now (said c.args.version) c.in-Some.key_len (sym c.key_size.ensures ∙ c.in-Some.is) c.in-Some-value_size.value_len (sym c.value_size.ensures ∙ c.in-Some-value_size.is) c.in-Some-proper_moment.moment (sym c.proper_moment.ensures ∙ c.in-Some-proper_moment.is) c.in-Some-not_earlier.moment (sym c.not_earlier.ensures ∙ c.in-Some-not_earlier.is) c.in-Some-unwritten.place (sym c.unwritten.ensures ∙ c.in-Some-unwritten.is) c.in-Some-roomy.table (sym c.roomy.ensures ∙ c.in-Some-roomy.is) c.in-Some-within_pages.field-0 (sym c.within_pages.ensures ∙ c.in-Some-within_pages.is) _ c.put_version.ensures
