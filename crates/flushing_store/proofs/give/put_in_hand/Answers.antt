use Rattle.flushing_store.specs.Octets.{put_octets}
use Rattle.flushing_store.specs.Give.{in_hand}
use Rattle.store.proofs.RegionLaws.{within_is}
use Rattle.flushing_store.proofs.give.put_in_hand.Goals as goal

pub returns : goal.returns
unfolding in_hand
returns c = within_is 150202 1310 (put_octets 0 c.args.bytes.now) c.args.memory.now c.put_octets.new.row c.put_octets.ensures
