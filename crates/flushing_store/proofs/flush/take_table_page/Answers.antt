use Rattle.std.proofs.Common.{◌≡◌, ap, ◌∙◌}
use Rattle.table.specs.Cursor.{wanted, list_with, ring_with}
use Rattle.flushing_store.specs.Control.{list_of}
use Rattle.store.specs.Regions.{region}
use Rattle.flushing_store.specs.Look.{extent_of}
use Rattle.store.proofs.RegionLaws.{within_is}
use Rattle.flushing_store.proofs.FlushLaws.{Took, took_list, took_ring, took_head, took_end}
use Rattle.flushing_store.proofs.flush.take_table_page.Goals as goal
use Rattle.flushing_store.proofs.flush.take_table_page.Goals.{in-Positions, in-Data, in-Head, in-End}

pub returns : goal.returns
unfolding region
returns c =
    let k = c.args.control in
    let cu = k.merging.cursor in
    let m = c.args.memory.now in
    let p = c.args.page.now in
    let w₀ = c.wants.result in
    let e : w₀ ≡ wanted cu (extent_of k.manifest) (list_of m) = c.wants.ensures ∙ ap (λ x. wanted cu x (list_of m)) c.extent_of.ensures in
    let t : Took k m p w₀ e c.match-wants.cursor c.match-wants.memory =
    elim c.match-wants.branch [
      | in-Positions w ↦ took_list k m p w₀ e c.match-wants.cursor c.match-wants.memory w.in-Positions.field-0 w.in-Positions.is (w.cursor-is ∙ w.take_positions-cursor.ensures.state)
          (w.memory-is ∙ within_is 149698 504 (list_with p) m w.take_positions-cursor.new.list w.take_positions-cursor.ensures.list)
      | in-Data w ↦ took_ring k m p w₀ e c.match-wants.cursor c.match-wants.memory w.in-Data.field-0 w.in-Data.is (w.cursor-is ∙ w.take_data-cursor.ensures.state)
          (w.memory-is ∙ within_is 147682 2016 (ring_with cu p) m w.take_data-cursor.new.ring w.take_data-cursor.ensures.ring)
      | in-Head w ↦ took_head k m p w₀ e c.match-wants.cursor c.match-wants.memory w.in-Head.is w.cursor-is w.memory-is
      | in-End w ↦ took_end k m p w₀ e c.match-wants.cursor c.match-wants.memory w.in-End.is w.cursor-is w.memory-is
    ] in
    record { state = t.0; memory = t.1 }
