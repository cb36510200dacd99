use Rattle.std.proofs.Common.{refl}
use Rattle.table.specs.Load.{placed}
use Rattle.flushing_store.specs.Look.{page_in}
use Rattle.store.proofs.RegionLaws.{within_is}
use Rattle.flushing_store.proofs.look.take_page.Goals as goal

pub returns : goal.returns
unfolding page_in
returns c = record {
  state = refl;
  row = within_is 147682 2016 (placed c.args.lookup.load.got c.args.page.now) c.args.memory.now c.place_payload.new.row c.place_payload.ensures;
}
