use Rattle.flushing_store.proofs.RoundLaws.{round_settles, round_data, round_positions, round_takes, round_next}
use Rattle.flushing_store.proofs.round.round.Goals as goal

pub returns-then-control-ge-MOST_WAITING : goal.returns-then-control-ge-MOST_WAITING
returns-then-control-ge-MOST_WAITING c =
    let p = round_settles c.args.control c.args.memory.now c.if-control-ge-MOST_WAITING.true c.settle.result c.settle.ensures in
    record { turn = p.0; memory = p.1 }

pub returns-in-Data : goal.returns-in-Data
returns-in-Data c =
    let p = round_data c.args.control c.args.memory.now c.if-control-ge-MOST_WAITING.false c.due.result c.due.ensures c.in-Data.is c.put_data.result c.put_data.ensures in
    record { turn = p.0; memory = p.1 }

pub returns-in-Positions : goal.returns-in-Positions
returns-in-Positions c =
    let p = round_positions c.args.control c.args.memory.now c.if-control-ge-MOST_WAITING.false c.due.result c.due.ensures c.in-Positions.is c.put_positions.result c.put_positions.ensures in
    record { turn = p.0; memory = p.1 }

pub returns-in-Take : goal.returns-in-Take
returns-in-Take c =
    let p = round_takes c.args.control c.args.memory.now c.if-control-ge-MOST_WAITING.false c.due.result c.due.ensures c.in-Take.n c.in-Take.is c.take_bytes.result c.take_bytes.new.memory
    c.take_bytes.ensures.turn c.take_bytes.ensures.memory in
    record { turn = p.0; memory = p.1 }

pub returns-in-Next : goal.returns-in-Next
returns-in-Next c =
    let p = round_next c.args.control c.args.memory.now c.if-control-ge-MOST_WAITING.false c.due.result c.due.ensures c.in-Next.is c.next_version.result c.next_version.new.memory
    c.next_version.ensures.turn c.next_version.ensures.memory in
    record { turn = p.0; memory = p.1 }
