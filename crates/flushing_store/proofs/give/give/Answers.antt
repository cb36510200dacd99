use Rattle.std.proofs.Common.{◌≡◌, ◌∙◌, arith}
use Rattle.value.specs.Said.{said}
use Rattle.flushing_store.specs.Give.{with_entry}
use Rattle.flushing_store.proofs.GiveLaws.{nothing_given, given}
use Rattle.flushing_store.proofs.give.give.Goals as goal
use Rattle.flushing_store.proofs.give.give.Goals.{then-begins, else-begins}

pub returns-in_err-bytes : goal.returns-in_err-bytes
returns-in_err-bytes c =
    let p = nothing_given c.args.writer (said c.args.version) c.args.memory.now c.in_err-bytes.ensures in
    record { writer = c.from_residual.ensures ∙ p.0; memory = p.1 }

pub returns : goal.returns
returns c =
    let w = c.args.writer in
    let entry : c.if-begins.memory ≡ with_entry c.begins-begins.result w c.put_in_hand.new.memory =
    elim c.if-begins.branch [ then-begins t ↦ simp t.if-begins.true (t.memory-is ∙ t.end_block.ensures) | else-begins t ↦ simp t.if-begins.false t.memory-is ] in
    let p = given w c.give.result (said c.args.version) c.args.memory.now c.begins-begins.result c.bound_for-bound.result c.saturating_add-size.result
    c.as_slice.result.now c.put_in_hand.new.memory c.if-begins.memory c.stage.new.memory c.in_ok-bytes.ensures.0
    (λ h l. omega (arith, c.saturating_add.ensures, c.saturating_add-size.ensures)) c.begins-begins.ensures c.bound_for-bound.ensures (c.as_slice.ensures ∙ c.in_ok-bytes.ensures.1.1) c.put_in_hand.ensures entry
    c.stage.ensures c.give.ensures in
    record { writer = p.0; memory = p.1 }
