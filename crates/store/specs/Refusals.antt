-- The refusals by their numbers; a number that none has comes back.
use Rattle.std.specs.Prelude.{ℕ, Result, Ok, Err, ◌==◌}
use Rattle.value.specs.Versions.{pick}
use Rattle.store.specs.declared.told.NoRefusal.{NoRefusal}
use Rattle.store.specs.declared.told.Refusal.{Refusal}
use Rattle.store.specs.declared.told.Refusal.TheVariants.{Misfit, Unknown, Moment, Compacted, Limits, Unsafe, Full}

abbrev pub refusal_of : ℕ → Result Refusal NoRefusal
refusal_of n =
    pick (n == 0) (Ok Misfit) (pick (n == 2) (Ok Unknown) (pick (n == 3) (Ok Moment) (pick (n == 4) (Ok Compacted) (pick (n == 6) (Ok Limits)
    (pick (n == 7) (Ok Unsafe) (pick (n == 8) (Ok Full) (Err (record { 0 = n }))))))))
