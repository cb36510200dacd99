use Rattle.std.proofs.Common.{◌≡◌, drop}
use Rattle.spelling.specs.Spelling.{digits_from}
use Rattle.spelling.proofs.spelling.number.Given as goal

-- what is left of the digits gives the number that the whole spells
abbrev pub invariant-loop-b : goal.invariant-loop-b
invariant-loop-b l = digits_from l.n (drop l.b-index l.digits) ≡ digits_from 0 l.digits
