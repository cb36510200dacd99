use Rattle.std.proofs.Common.{◌∙◌, arith}
use Rattle.store.proofs.ShownLaws.{of_first, of_key, of_value}
use Rattle.store.proofs.shown.shown_byte.Goals as goal

pub returns-then-i-eq0 : goal.returns-then-i-eq0
returns-then-i-eq0 c = of_first c.args.key.now c.args.value.now c.args.i c.requires c.if-i-eq0.true

pub returns-then-i-key : goal.returns-then-i-key
returns-then-i-key c = of_key c.args.key.now c.args.value.now c.args.i _ c.requires c.if-i-eq0.false (omega arith) (c.from.ensures ∙ c.byte.ensures)

pub returns : goal.returns
returns c = of_value c.args.key.now c.args.value.now c.args.i _ c.requires c.if-i-eq0.false (omega arith) (c.from-2.ensures ∙ c.byte-2.ensures)
