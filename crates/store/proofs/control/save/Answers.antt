use Rattle.std.proofs.Common.{◌≡◌, arith}
use Rattle.store.specs.Control.{put_control}
use Rattle.store.specs.Regions.{wrap}
use Rattle.store.proofs.control.save.Goals as goal

pub returns : goal.returns
unfolding put_control
returns c =
    let k = c.args.control in
    let e₁ : wrap k.pages ≡ k.pages = omega arith in
    let e₂ : wrap k.last ≡ k.last = omega arith in
    let e₃ : wrap k.table.versions ≡ k.table.versions = omega arith in
    let e₄ : wrap k.table.used ≡ k.table.used = omega arith in
    let e₅ : wrap k.table.weight ≡ k.table.weight = omega arith in
    simp (e₁, e₂, e₃, e₄, e₅, c.from.ensures)
