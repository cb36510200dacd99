use Rattle.std.proofs.Common.{length, rules, sym, ◌∙◌}
use Rattle.memtable.specs.Words.{packed_word}
use Rattle.memtable.specs.Arena.{key_word}
use Rattle.memtable.proofs.LoopLaws.{compare_apart, compare_same, compare_end}
use Rattle.memtable.proofs.StepLaws.{order_whole, cmp_lengths}
use Rattle.memtable.proofs.arena.order_at.Goals as goal

pub loop-k-init : goal.loop-k-init
loop-k-init c = search (rules, order_whole)

pub returns-then-is_ne : goal.returns-then-is_ne
unfolding packed_word key_word
returns-then-is_ne c = search (rules, compare_apart)

pub loop-k-preserved : goal.loop-k-preserved
unfolding packed_word key_word
loop-k-preserved c = search (rules, compare_same)

pub returns : goal.returns
returns c = c.cmp.ensures ∙ cmp_lengths c.key_len-length.result (length c.args.key.now) ∙ sym (compare_end _ _ _ _ _ c.loop-k-test.false) ∙ c.loop-k.invariant
