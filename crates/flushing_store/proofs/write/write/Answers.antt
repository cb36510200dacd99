use Rattle.std.proofs.Common.{sym, ◌∙◌}
use Rattle.value.specs.Said.{said}
use Rattle.flushing_store.proofs.WriteLaws.{bad_key, bad_value, bad_moment, too_early, above_all, looks}
use Rattle.flushing_store.proofs.write.write.Goals as goal

pub returns-in_default : goal.returns-in_default
returns-in_default c = bad_key c.args.control c.args.memory.now (said c.args.version) (sym c.key_size.ensures ∙ c.in_default.is)

pub returns-in_default-value_size : goal.returns-in_default-value_size
returns-in_default-value_size c =
    bad_value c.args.control c.args.memory.now (said c.args.version) c.in-Some.field-0 (sym c.key_size.ensures ∙ c.in-Some.is)
    (sym c.value_size.ensures ∙ c.in_default-value_size.is)

pub returns-in_default-proper_moment : goal.returns-in_default-proper_moment
returns-in_default-proper_moment c =
    bad_moment c.args.control c.args.memory.now (said c.args.version) c.in-Some.field-0 (sym c.key_size.ensures ∙ c.in-Some.is)
    c.in-Some-value_size.field-0 (sym c.value_size.ensures ∙ c.in-Some-value_size.is) (sym c.proper_moment.ensures ∙ c.in_default-proper_moment.is)

pub returns-in_default-not_earlier : goal.returns-in_default-not_earlier
returns-in_default-not_earlier c =
    too_early c.args.control c.args.memory.now (said c.args.version) c.in-Some.field-0 (sym c.key_size.ensures ∙ c.in-Some.is)
    c.in-Some-value_size.field-0 (sym c.value_size.ensures ∙ c.in-Some-value_size.is) c.in-Some-proper_moment.moment (sym c.proper_moment.ensures ∙ c.in-Some-proper_moment.is)
    (sym c.not_earlier.ensures ∙ c.in_default-not_earlier.is)

pub returns-in_default-seek_below : goal.returns-in_default-seek_below
returns-in_default-seek_below c =
    above_all c.args.control c.args.memory.now (said c.args.version) c.in-Some.field-0 (sym c.key_size.ensures ∙ c.in-Some.is)
    c.in-Some-value_size.field-0 (sym c.value_size.ensures ∙ c.in-Some-value_size.is) c.in-Some-proper_moment.moment (sym c.proper_moment.ensures ∙ c.in-Some-proper_moment.is)
    c.in-Some-not_earlier.moment (sym c.not_earlier.ensures ∙ c.in-Some-not_earlier.is) _ _ (sym c.seek_below.ensures ∙ c.in_default-seek_below.is) c.accept.ensures

pub returns : goal.returns
returns c =
    looks c.args.control c.args.memory.now (said c.args.version) c.in-Some.field-0 (sym c.key_size.ensures ∙ c.in-Some.is)
    c.in-Some-value_size.field-0 (sym c.value_size.ensures ∙ c.in-Some-value_size.is) c.in-Some-proper_moment.moment (sym c.proper_moment.ensures ∙ c.in-Some-proper_moment.is)
    c.in-Some-not_earlier.moment (sym c.not_earlier.ensures ∙ c.in-Some-not_earlier.is) _ _ c.in-Some-seek_below.lookup c.stage.new.memory
    (sym c.seek_below.ensures ∙ c.in-Some-seek_below.is) c.stage.ensures c.ask.ensures
