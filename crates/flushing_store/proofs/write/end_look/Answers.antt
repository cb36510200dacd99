use Rattle.std.proofs.Common.{◌≡◌, ◌+◌, sym, ◌∙◌, eq-eqb, ne_eqb}
use Rattle.memtable.specs.Arena.{key_at as key_in, moment_at}
use Rattle.flushing_store.specs.Control.{stage_region}
use Rattle.store.specs.Regions.{region, wrap}
use Rattle.flushing_store.specs.Look.{looked}
use Rattle.store.specs.declared.told.Told.TheVariants.{No}
use Rattle.flushing_store.proofs.WriteLaws.{looked_for, write_on, write_missing, write_other, write_same}
use Rattle.flushing_store.proofs.write.end_look.Goals as goal

pub returns-in-On : goal.returns-in-On
unfolding region
returns-in-On c =
    let k = c.args.control in
    let m = c.args.memory.now in
    let l = c.args.lookup in
    let e : c.look_staged.result ≡ looked_for k m l = c.look_staged.ensures ∙ (λ i. looked l (c.extent_of-extent.ensures i) (c.octets-row.ensures i) (key_in (stage_region m) 0) (wrap (c.moment_at-moment.ensures i + 1))) in
    write_on k m l _ _ c.in-On.next (sym e ∙ c.in-On.is) c.ask.ensures

pub returns-in-Missing : goal.returns-in-Missing
unfolding region
returns-in-Missing c =
    let k = c.args.control in
    let m = c.args.memory.now in
    let l = c.args.lookup in
    let e : c.look_staged.result ≡ looked_for k m l = c.look_staged.ensures ∙ (λ i. looked l (c.extent_of-extent.ensures i) (c.octets-row.ensures i) (key_in (stage_region m) 0) (wrap (c.moment_at-moment.ensures i + 1))) in
    write_missing k m l _ _ (sym e ∙ c.in-Missing.is) c.finish.ensures

pub returns-then-place-moment : goal.returns-then-place-moment
unfolding region
returns-then-place-moment c =
    let k = c.args.control in
    let m = c.args.memory.now in
    let l = c.args.lookup in
    let e : c.look_staged.result ≡ looked_for k m l = c.look_staged.ensures ∙ (λ i. looked l (c.extent_of-extent.ensures i) (c.octets-row.ensures i) (key_in (stage_region m) 0) (wrap (c.moment_at-moment.ensures i + 1))) in
    write_same k m l (No 3) _ c.in-Found.place (sym e ∙ c.in-Found.is) (eq-eqb c.in-Found.place.moment (moment_at (stage_region m) 0) (c.if-place-moment.true ∙ c.moment_at-moment.ensures)) c.turn_to.ensures

pub returns-else-place-moment : goal.returns-else-place-moment
unfolding region
returns-else-place-moment c =
    let k = c.args.control in
    let m = c.args.memory.now in
    let l = c.args.lookup in
    let e : c.look_staged.result ≡ looked_for k m l = c.look_staged.ensures ∙ (λ i. looked l (c.extent_of-extent.ensures i) (c.octets-row.ensures i) (key_in (stage_region m) 0) (wrap (c.moment_at-moment.ensures i + 1))) in
    write_other k m l _ _ c.in-Found.place (sym e ∙ c.in-Found.is) (ne_eqb c.in-Found.place.moment (moment_at (stage_region m) 0) (λ q. c.if-place-moment.false (q ∙ sym c.moment_at-moment.ensures))) c.finish-in-Found.ensures
