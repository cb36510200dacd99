use Rattle.std.proofs.Common.{true, false, ◌∙◌, refl}
use Rattle.value.specs.Encoding.{key_at}
use Rattle.value.proofs.KeyLaws.{same_told}
use Rattle.table.proofs.block.is_wanted.Goals as goal

pub returns-then-eq : goal.returns-then-eq
returns-then-eq c = rw (same_told _ (key_at c.args.block.now c.args.place) c.args.key.now true c.key_of.ensures c.if-eq.ensures) refl

pub returns-else-eq : goal.returns-else-eq
returns-else-eq c = c.if-eq.false ∙ rw (same_told _ (key_at c.args.block.now c.args.place) c.args.key.now false c.key_of.ensures c.if-eq.ensures) refl
