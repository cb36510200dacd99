use Rattle.std.proofs.Common.{refl}
use Rattle.flushing_store.specs.Own.{own}
use Rattle.store.proofs.EntryLaws.{memory_says, row_says, event_says, turn_says}
use Rattle.flushing_store.proofs.EntryLaws.{start_length, own_does}
use Rattle.store.proofs.ToldLaws.{front_same}
use Rattle.flushing_store.proofs.entry.step.Goals as goal

pub returns-in_default : goal.returns-in_default
returns-in_default c = memory_says own _ start_length _ _ _ _ _ _ _ _ c.in_default.ensures.cases refl refl

pub returns-in_default-first_chunk_mut : goal.returns-in_default-first_chunk_mut
returns-in_default-first_chunk_mut c = row_says own _ start_length _ _ _ _ _ _ _ _ c.in_default-first_chunk_mut.ensures.cases c.in-Some.ensures.cases.same refl

pub returns-in_default-numbered : goal.returns-in_default-numbered
returns-in_default-numbered c =
    event_says own _ start_length _ _ _ _ _ _ _ _ c.in_default-numbered.ensures c.in-Some.ensures.cases.same (front_same _ _ _ c.in-Some-first_chunk_mut.ensures.cases)

pub returns : goal.returns
returns c =
    turn_says own _ start_length _ _ _ _ _ _ _ _ _ _ c.in-Some.ensures.cases.long c.in-Some-first_chunk_mut.ensures.cases c.take_turn.ensures.whole c.in-Some-numbered.ensures.0
    (own_does _ _ _ _ _ _ _ _ _ _ c.load-control.result c.in-Some-numbered.event c.in-Some.ensures.cases c.load-control.ensures c.in-Some-numbered.ensures.1 c.take_turn.ensures.says)
