use Rattle.std.proofs.Common.{◌≡◌, ◌-◌}
use Rattle.flushing_store.specs.Round.{went}
use Rattle.flushing_store.specs.Flush.{spun_from}
use Rattle.flushing_store.proofs.flush.spin.Given as goal

abbrev pub invariant-rounds : goal.invariant-rounds
invariant-rounds l = spun_from (1024 - l.i) (went l.turn.control l.turn.deed l.memory) ≡ spun_from 1024 (went l.initial.turn.control l.initial.turn.deed l.initial.memory)
