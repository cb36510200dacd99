use Rattle.std.proofs.Common.{◌≡◌, replicate, refl}
use Rattle.table.specs.Cursor.{listed_entry}
use Rattle.flushing_store.specs.Control.{list_of, ring_of}
use Rattle.store.specs.Regions.{region}
use Rattle.flushing_store.specs.Round.{block_in}
use Rattle.flushing_store.proofs.RoundLaws.{ring_front, block_is}
use Rattle.flushing_store.proofs.round.next_in_block.Goals as goal

pub returns : goal.returns
unfolding region
returns c =
    let k = c.args.control in
    let m = c.args.memory.now in
    let e : c.part_of-block.result.now ≡ block_in k m =
    ring_front c.entry-entry.result (listed_entry k.merging.cursor (list_of m)) (ring_of m) (replicate 1512 0) c.block_into-len.new.block c.part_of-block.result.now c.block_into-len.result refl c.entry-entry.ensures
    c.block_into-len.ensures.len c.block_into-len.ensures.bytes c.part_of-block.ensures in
    let p = block_is k m c.part_of-block.result.now c.head.result c.hand_over.result c.hand_over.new.memory e c.head.ensures c.hand_over.ensures.turn c.hand_over.ensures.memory in
    record { turn = p.0; memory = p.1 }
