use Rattle.std.proofs.Common.{◌≡◌, ◌+◌, ◌-◌, length, take, drop, ap, ◌∙◌, arith, length-drop, length-take}
use Rattle.table.specs.Row.{octets}
use Rattle.flushing_store.proofs.OctetLaws.{put_far, put_near}
use Rattle.flushing_store.proofs.octets.put_octets.Goals as goal

pub returns-then-bytes-row : goal.returns-then-bytes-row
returns-then-bytes-row c = put_far c.args.at c.args.bytes.now c.args.row.now (omega arith)

pub returns-then-at-row : goal.returns-then-at-row
returns-then-at-row c = put_far c.args.at c.args.bytes.now c.args.row.now (omega arith)

pub returns : goal.returns
returns c =
    let at = c.args.at in
    let bs = c.args.bytes.now in
    let row = c.args.row.now in
    let l : length (take (at + length bs - at) (drop at row)) ≡ length bs = omega (arith, length-take (at + length bs - at) (drop at row), length-drop at row) in
    put_near at (at + length bs - at) bs row c.widen_into.new.row (omega arith) (omega arith) (c.widen_into.ensures ∙ ap (λ n. octets n bs) l)
