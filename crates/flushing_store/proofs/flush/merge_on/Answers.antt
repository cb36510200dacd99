use Rattle.flushing_store.proofs.FlushLaws.{merges}
use Rattle.flushing_store.proofs.flush.merge_on.Goals as goal

pub returns : goal.returns
returns c =
    merges c.args.control c.args.memory.now c.spin-turn.result c.spin-turn.new.memory c.args.out.now _ _ _ c.spin-turn.ensures.turn c.spin-turn.ensures.memory c.perform.ensures
