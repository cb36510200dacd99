use Rattle.flushing_store.proofs.RoundLaws.{over_end, over_memory, over_table, over_first, over_second}
use Rattle.flushing_store.proofs.round.hand_over.Goals as goal

pub returns-in-None-None : goal.returns-in-None-None
returns-in-None-None c =
    let p = over_end c.args.control c.args.memory.now c.args.block.now c.memory_head.result c.memory_head.ensures c.args.place c.close.result c.close.new.memory c.in-None-None.is-0 c.in-None-None.is-1
    c.close.ensures.turn c.close.ensures.memory in
    record { turn = p.0; memory = p.1 }

pub returns-in-None-Some : goal.returns-in-None-Some
returns-in-None-Some c =
    let p = over_table c.args.control c.args.memory.now c.args.block.now c.memory_head.result c.memory_head.ensures c.args.place c.give_table.result c.give_table.new.memory c.in-None-Some.place
    c.in-None-Some.is-0 c.in-None-Some.is-1 c.give_table.ensures.turn c.give_table.ensures.memory in
    record { turn = p.0; memory = p.1 }

pub returns-in-Some-None : goal.returns-in-Some-None
returns-in-Some-None c =
    let p = over_memory c.args.control c.args.memory.now c.args.block.now c.memory_head.result c.memory_head.ensures c.args.place c.give_memory.result c.give_memory.new.memory c.in-Some-None.at
    c.in-Some-None.is-0 c.in-Some-None.is-1 c.give_memory.ensures.turn c.give_memory.ensures.memory in
    record { turn = p.0; memory = p.1 }

pub returns-then-memory_leads : goal.returns-then-memory_leads
returns-then-memory_leads c =
    let p = over_first c.args.control c.args.memory.now c.args.block.now c.memory_head.result c.memory_head.ensures c.args.place c.give_memory-then-memory_leads.result c.give_memory-then-memory_leads.new.memory
    c.in-Some-Some.at c.in-Some-Some.place c.in-Some-Some.is-0 c.in-Some-Some.is-1 c.if-memory_leads.ensures c.give_memory-then-memory_leads.ensures.turn c.give_memory-then-memory_leads.ensures.memory in
    record { turn = p.0; memory = p.1 }

pub returns-else-memory_leads : goal.returns-else-memory_leads
returns-else-memory_leads c =
    let p = over_second c.args.control c.args.memory.now c.args.block.now c.memory_head.result c.memory_head.ensures c.args.place c.give_table-else-memory_leads.result c.give_table-else-memory_leads.new.memory
    c.in-Some-Some.at c.in-Some-Some.place c.in-Some-Some.is-0 c.in-Some-Some.is-1 c.if-memory_leads.ensures c.give_table-else-memory_leads.ensures.turn c.give_table-else-memory_leads.ensures.memory in
    record { turn = p.0; memory = p.1 }
