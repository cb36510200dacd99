use Rattle.std.proofs.Common.{refl}
use Rattle.flushing_store.specs.Own.{went_on}
use Rattle.flushing_store.specs.declared.control.Phase.TheVariants.{Shown, Merging, Closed, Placed, Settled, Listed, Committed}
use Rattle.flushing_store.proofs.EntryLaws.{go_by, go_nowhere}
use Rattle.flushing_store.proofs.entry.go_on.Goals as goal
use Rattle.store.specs.Acts.{ActTold}

pub returns-in-Shown : goal.returns-in-Shown
unfolding went_on ActTold
returns-in-Shown c = go_by c.args.control c.args.memory.now c.args.out.now _ _ _ Shown c.in-Shown.is (c.turn_to.ensures, (refl, refl))

pub returns-in-Merging : goal.returns-in-Merging
unfolding went_on
returns-in-Merging c = go_by c.args.control c.args.memory.now c.args.out.now _ _ _ Merging c.in-Merging.is c.merge_on.ensures

pub returns-in-Closed : goal.returns-in-Closed
unfolding went_on
returns-in-Closed c = go_by c.args.control c.args.memory.now c.args.out.now _ _ _ Closed c.in-Closed.is c.put_last.ensures

pub returns-in-Placed : goal.returns-in-Placed
unfolding went_on ActTold
returns-in-Placed c = go_by c.args.control c.args.memory.now c.args.out.now _ _ _ Placed c.in-Placed.is (c.turn_to-in-Placed.ensures, (refl, refl))

pub returns-in-Settled : goal.returns-in-Settled
unfolding went_on
returns-in-Settled c = go_by c.args.control c.args.memory.now c.args.out.now _ _ _ Settled c.in-Settled.is c.put_new_list.ensures

pub returns-in-Listed : goal.returns-in-Listed
unfolding went_on ActTold
returns-in-Listed c = go_by c.args.control c.args.memory.now c.args.out.now _ _ _ Listed c.in-Listed.is (c.turn_to-in-Listed.ensures, (refl, refl))

pub returns-in-Committed : goal.returns-in-Committed
unfolding went_on
returns-in-Committed c = go_by c.args.control c.args.memory.now c.args.out.now _ _ _ Committed c.in-Committed.is (c.commit.ensures.0, c.commit.ensures.1 c.args.out.now)

pub returns-in_default : goal.returns-in_default
returns-in_default c =
    let r = c.in_default in
    go_nowhere c.args.control c.args.memory.now c.args.out.now c.args.control.base.phase r.not-Shown r.not-Merging r.not-Closed r.not-Placed r.not-Settled r.not-Listed r.not-Committed
