use Rattle.std.proofs.Common.{◌≡◌, suc, ◌&&◌, eqb, refl, ap, ◌∙◌, arith}
use Rattle.memtable.specs.Arena.{moment_at}
use Rattle.memtable.proofs.StepLaws.{written_none, written_by}
use Rattle.memtable.proofs.memtable.Memtable.written_at.Goals as goal

pub returns-in_default : goal.returns-in_default
returns-in_default c = written_none _ _ _ _ _ _ c.seek.ensures.is (omega (arith, c.in_default.ensures))

pub returns-then-is_eq : goal.returns-then-is_eq
returns-then-is_eq c =
    let e : suc c.in-Some.last ≡ c.seek.result = omega (arith, c.in-Some.ensures) in
    ap (λ b. b && eqb c.moment_at.result c.args.moment) c.if-is_eq.ensures
    ∙ written_by _ _ _ _ _ _ _ _ _ (e ∙ c.seek.ensures.is) c.place_at-place.ensures c.order_at.ensures c.moment_at.ensures

pub returns-else-is_eq : goal.returns-else-is_eq
returns-else-is_eq c =
    let e : suc c.in-Some.last ≡ c.seek.result = omega (arith, c.in-Some.ensures) in
    c.if-is_eq.false ∙ ap (λ b. b && eqb (moment_at c.args.arena.now c.place_at-place.result) c.args.moment) c.if-is_eq.ensures
    ∙ written_by _ _ _ _ _ _ _ _ _ (e ∙ c.seek.ensures.is) c.place_at-place.ensures c.order_at.ensures refl
