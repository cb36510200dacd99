use Rattle.std.proofs.Common.{◌≡◌, ap, ◌∙◌}
use Rattle.table.specs.Cursor.{wanted}
use Rattle.flushing_store.specs.Control.{list_of}
use Rattle.store.specs.Regions.{region}
use Rattle.flushing_store.specs.Look.{extent_of}
use Rattle.flushing_store.proofs.RoundLaws.{next_positions, next_data, next_head, next_end}
use Rattle.flushing_store.proofs.round.next_version.Goals as goal

pub returns-in-Head : goal.returns-in-Head
unfolding region
returns-in-Head c =
    let k = c.args.control in
    let m = c.args.memory.now in
    let e : c.wants.result ≡ wanted k.merging.cursor (extent_of k.manifest) (list_of m) = c.wants.ensures ∙ ap (λ x. wanted k.merging.cursor x (list_of m)) c.extent_of-extent.ensures in
    let p = next_head k m c.wants.result e c.next_in_block.result c.next_in_block.new.memory c.in-Head.is c.next_in_block.ensures.turn c.next_in_block.ensures.memory in
    record { turn = p.0; memory = p.1 }

pub returns-in-End : goal.returns-in-End
unfolding region
returns-in-End c =
    let k = c.args.control in
    let m = c.args.memory.now in
    let e : c.wants.result ≡ wanted k.merging.cursor (extent_of k.manifest) (list_of m) = c.wants.ensures ∙ ap (λ x. wanted k.merging.cursor x (list_of m)) c.extent_of-extent.ensures in
    let p = next_end k m c.wants.result e c.hand_over.result c.hand_over.new.memory c.in-End.is c.hand_over.ensures.turn c.hand_over.ensures.memory in
    record { turn = p.0; memory = p.1 }

pub returns-in-Positions : goal.returns-in-Positions
unfolding region
returns-in-Positions c =
    let k = c.args.control in
    let m = c.args.memory.now in
    let e : c.wants.result ≡ wanted k.merging.cursor (extent_of k.manifest) (list_of m) = c.wants.ensures ∙ ap (λ x. wanted k.merging.cursor x (list_of m)) c.extent_of-extent.ensures in
    let p = next_positions k m c.wants.result e c.in-Positions.page c.in-Positions.is in
    record { turn = p.0; memory = p.1 }

pub returns-in-Data : goal.returns-in-Data
unfolding region
returns-in-Data c =
    let k = c.args.control in
    let m = c.args.memory.now in
    let e : c.wants.result ≡ wanted k.merging.cursor (extent_of k.manifest) (list_of m) = c.wants.ensures ∙ ap (λ x. wanted k.merging.cursor x (list_of m)) c.extent_of-extent.ensures in
    let p = next_data k m c.wants.result e c.in-Data.page c.in-Data.is in
    record { turn = p.0; memory = p.1 }
