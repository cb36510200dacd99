use Rattle.std.proofs.Common.{◌≡◌, ◌++◌, length, drop, sym, ap, ◌∙◌}
use Rattle.value.specs.Encoding.{key_at, value_at}
use Rattle.memtable.specs.Arena.{key_at as key_in}
use Rattle.table.specs.Lookup.{loaded}
use Rattle.flushing_store.specs.Control.{stage_region}
use Rattle.store.specs.Regions.{region}
use Rattle.flushing_store.specs.Look.{looked}
use Rattle.store.specs.Shown.{row_of}
use Rattle.flushing_store.proofs.GetLaws.{looked_for, get_on, get_missing, get_gone, get_shown}
use Rattle.flushing_store.proofs.get.end_get.Goals as goal

pub returns-in-On : goal.returns-in-On
unfolding region
returns-in-On c =
    let k = c.args.control in
    let m = c.args.memory.now in
    let l = c.args.lookup in
    let e : c.look_staged.result ≡ looked_for k m l = c.look_staged.ensures ∙ (λ i. looked l (c.extent_of-extent.ensures i) (c.octets-row.ensures i) (key_in (stage_region m) 0) (c.moment_at-moment.ensures i)) in
    get_on k m l c.args.out.now _ c.in-On.next _ (sym e ∙ c.in-On.is) c.ask.ensures

pub returns-in-Missing : goal.returns-in-Missing
unfolding region
returns-in-Missing c =
    let k = c.args.control in
    let m = c.args.memory.now in
    let l = c.args.lookup in
    let e : c.look_staged.result ≡ looked_for k m l = c.look_staged.ensures ∙ (λ i. looked l (c.extent_of-extent.ensures i) (c.octets-row.ensures i) (key_in (stage_region m) 0) (c.moment_at-moment.ensures i)) in
    get_missing k m l c.args.out.now _ (sym e ∙ c.in-Missing.is) c.turn_to.ensures

pub returns-then-place : goal.returns-then-place
unfolding region
returns-then-place c =
    let k = c.args.control in
    let m = c.args.memory.now in
    let l = c.args.lookup in
    let e : c.look_staged.result ≡ looked_for k m l = c.look_staged.ensures ∙ (λ i. looked l (c.extent_of-extent.ensures i) (c.octets-row.ensures i) (key_in (stage_region m) 0) (c.moment_at-moment.ensures i)) in
    get_gone k m l c.args.out.now _ c.in-Found.place (sym e ∙ c.in-Found.is) c.if-place.true c.turn_to-then-place.ensures

pub returns-else-place : goal.returns-else-place
unfolding region
returns-else-place c =
    let k = c.args.control in
    let m = c.args.memory.now in
    let l = c.args.lookup in
    let p = c.in-Found.place in
    let e : c.look_staged.result ≡ looked_for k m l = c.look_staged.ensures ∙ (λ i. looked l (c.extent_of-extent.ensures i) (c.octets-row.ensures i) (key_in (stage_region m) 0) (c.moment_at-moment.ensures i)) in
    let b = c.loaded-block.ensures ∙ ap (loaded l) c.octets-row.ensures in
    let q = (λ i. row_of (c.key_of.ensures i) (c.value_of.ensures i)) ∙ ap (λ x. row_of (key_at x p) (value_at x p)) b in
    get_shown k m l c.args.out.now _ p _ _ (sym e ∙ c.in-Found.is) c.if-place.false c.turn_to-in-Found.ensures
    (c.write_shown-len.ensures.len ∙ ap length q) (c.write_shown-len.ensures.row ∙ ap (λ x. x ++ drop (length x) c.args.out.now) q)
