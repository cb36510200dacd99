use Rattle.value.specs.Said.{said}
use Rattle.memtable.specs.Arena.{appended}
use Rattle.flushing_store.specs.Stage.{staged}
use Rattle.store.proofs.RegionLaws.{within_is}
use Rattle.flushing_store.proofs.stage.stage.Goals as goal

pub returns : goal.returns
unfolding staged
returns c =
    within_is 147520 162 (λ x. appended x 0 (said c.args.version)) c.args.memory.now c.append.new.arena c.append.ensures
