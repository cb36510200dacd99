-- The stages of a lookup, as numbers in memory.
use Rattle.std.specs.Prelude.{ℕ, ◌==◌}
use Rattle.value.specs.Versions.{pick}
use Rattle.table.specs.declared.lookup.Stage.{Stage}
use Rattle.table.specs.declared.lookup.Stage.TheVariants.{Entry, Head, Block}

abbrev pub stage_of : ℕ → Stage
stage_of n = pick (n == 1) Head (pick (n == 2) Block Entry)

abbrev pub stage_number : Stage → ℕ
stage_number Entry = 0
stage_number Head = 1
stage_number Block = 2
