use Rattle.std.proofs.Common.{arith}
use Rattle.std.proofs.lemmas.Bool.Decides.{nat_tests}
use Rattle.value.specs.Encoding.{limits}
use Rattle.value.proofs.version.in_limits.Goals as goal

pub returns-then-key_len-eq0 : goal.returns-then-key_len-eq0
unfolding limits
returns-then-key_len-eq0 c = grind (arith, nat_tests)

pub returns-then-moment-ge-TOO_LATE : goal.returns-then-moment-ge-TOO_LATE
unfolding limits
returns-then-moment-ge-TOO_LATE c = grind (arith, nat_tests)

pub returns-then-not-gone : goal.returns-then-not-gone
unfolding limits
returns-then-not-gone c = grind (arith, nat_tests)

pub returns-else-not-gone : goal.returns-else-not-gone
unfolding limits
returns-else-not-gone c = grind (arith, nat_tests)
