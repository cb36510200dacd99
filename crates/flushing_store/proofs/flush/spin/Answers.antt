use Rattle.std.proofs.Common.{sym, ◌∙◌, arith}
use Rattle.flushing_store.proofs.FlushLaws.{spun_more, spun_done, spun_end, spun_is}
use Rattle.flushing_store.proofs.flush.spin.Goals as goal

pub rounds-preserved : goal.rounds-preserved
rounds-preserved c =
    spun_more 1024 c.rounds.i c.rounds.turn c.round-turn.result c.rounds.memory c.round-turn.new.memory (omega arith) c.if-is_some.ensures c.round-turn.ensures.turn c.round-turn.ensures.memory
    ∙ c.rounds.invariant

pub returns-then-is_some : goal.returns-then-is_some
returns-then-is_some c =
    let p = spun_is 1024 c.args.control c.args.memory.now c.rounds.turn c.rounds.memory (sym (spun_done 1024 c.rounds.i c.rounds.turn c.rounds.memory (omega arith) c.if-is_some.ensures) ∙ c.rounds.invariant) in
    record { turn = p.0; memory = p.1 }

pub returns-after-rounds : goal.returns-after-rounds
returns-after-rounds c =
    let p = spun_is 1024 c.args.control c.args.memory.now c.rounds.turn c.rounds.memory (sym (spun_end 1024 c.rounds.i c.rounds.turn c.rounds.memory (omega arith)) ∙ c.rounds.invariant) in
    record { turn = p.0; memory = p.1 }
