use Rattle.std.proofs.Common.{◌≡◌, ◌-◌}
use Rattle.table.specs.Reading.{found_from, found_in}
use Rattle.table.proofs.block.find.Given as goal

abbrev pub invariant-versions : goal.invariant-versions
invariant-versions l = found_from (94 - l.i) l.block l.key l.moment l.at ≡ found_in l.block l.key l.moment
