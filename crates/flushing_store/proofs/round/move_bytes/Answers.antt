use Rattle.std.proofs.Common.{◌≡◌, min, take, drop, refl, ap, ◌∙◌, arith}
use Rattle.table.specs.Row.{octets}
use Rattle.flushing_store.specs.Control.{hand_of}
use Rattle.store.specs.Regions.{region}
use Rattle.flushing_store.specs.Octets.{put_octets}
use Rattle.flushing_store.specs.Round.{took_bytes}
use Rattle.store.proofs.RegionLaws.{within_is}
use Rattle.flushing_store.proofs.OctetLaws.{part_from}
use Rattle.flushing_store.proofs.round.move_bytes.Goals as goal

pub returns : goal.returns
unfolding took_bytes region
returns c =
    let m = c.args.memory.now in
    let i = c.min-from.result in
    let bytes : c.as_slice.result.now ≡ octets (min c.args.n 504) (drop (min c.args.taken 1310) (hand_of m)) =
    c.as_slice.ensures ∙ c.page_octets-bytes.ensures
    ∙ ap (octets (min c.args.n 504)) (part_from 150202 151512 1310 i (min c.args.taken 1310) m refl c.min-from.ensures (omega arith)) in
    within_is 151512 504 (put_octets c.args.fill (octets (min c.args.n 504) (drop (min c.args.taken 1310) (hand_of m)))) m c.put_octets.new.row
    (c.put_octets.ensures ∙ ap (λ bs. put_octets c.args.fill bs (take 504 (drop 151512 m))) bytes)
