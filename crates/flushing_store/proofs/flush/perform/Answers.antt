use Rattle.std.proofs.Common.{◌∙◌}
use Rattle.store.specs.Regions.{region}
use Rattle.flushing_store.proofs.FlushLaws.{perform_more, perform_fetch, perform_settle, perform_data, perform_positions}
use Rattle.flushing_store.proofs.flush.perform.Goals as goal
use Rattle.flushing_store.proofs.flush.perform.Goals.{in-None, in-Some-Fetch, in-Some-Data, in-Some-Positions, in-Some-Settle}

pub returns : goal.returns
unfolding region
returns c =
    let k = c.args.turn.control in
    let d = c.args.turn.deed in
    let m = c.args.memory.now in
    let o = c.args.out.now in
    elim c.match-turn.branch [
      | in-None w ↦ perform_more k d m c.save.new.memory o c.match-turn.out c.match-turn.told c.save.ensures w.in-None.is w.told-is w.out-is
      | in-Some-Fetch w ↦ perform_fetch k d m c.save.new.memory o c.match-turn.out c.match-turn.told c.save.ensures w.in-Some-Fetch.page w.in-Some-Fetch.field-0 w.in-Some-Fetch.is (rw w.in-Some-Fetch.is at w.in-Some-Fetch.field-0-is) w.told-is w.out-is
      | in-Some-Data w ↦ perform_data k d m c.save.new.memory o c.match-turn.out c.match-turn.told c.save.ensures w.in-Some-Data.page w.in-Some-Data.n w.in-Some-Data.field-0 w.in-Some-Data.is (rw w.in-Some-Data.is at w.in-Some-Data.field-0-is) w.told-is (w.out-is ∙ w.put_page.ensures)
      | in-Some-Positions w ↦ perform_positions k d m c.save.new.memory o c.match-turn.out c.match-turn.told c.save.ensures w.in-Some-Positions.page w.in-Some-Positions.n w.in-Some-Positions.field-0 w.in-Some-Positions.is (rw w.in-Some-Positions.is at w.in-Some-Positions.field-0-is) w.told-is
          (w.out-is ∙ w.put_page-in-Some-Positions.ensures)
      | in-Some-Settle w ↦ perform_settle k d m c.save.new.memory o c.match-turn.out c.match-turn.told c.save.ensures w.in-Some-Settle.field-0 w.in-Some-Settle.is (rw w.in-Some-Settle.is at w.in-Some-Settle.field-0-is) w.told-is w.out-is
    ]
