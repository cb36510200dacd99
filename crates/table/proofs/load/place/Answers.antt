use Rattle.std.proofs.Common.{◌+◌, ◌-◌, ◌*◌, ◌++◌, take, drop, ap, ◌∙◌, arith}
use Rattle.std.proofs.lemmas.Bool.Decides.{nat_tests}
use Rattle.table.specs.Load.{placed_at}
use Rattle.table.proofs.LoadLaws.{placed_there}
use Rattle.table.proofs.load.place.Goals as goal

pub returns-then-got-ge4 : goal.returns-then-got-ge4
unfolding placed_at
returns-then-got-ge4 g c = grind (arith, nat_tests)

pub returns : goal.returns
returns g c =
    let at = c.args.got * 504 in
    let row = c.args.row.now in
    ap (λ l. take at row ++ (l ++ drop (at + 504 - at) (drop at row))) c.copy_from_slice.ensures.after
    ∙ placed_there c.args.got at (at + 504 - at) c.args.payload.now row (omega arith) (omega arith) (omega arith) (omega arith)
