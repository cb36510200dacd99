use Rattle.std.proofs.Common.{◌≡◌, false, ◌&&◌, ltb, leb, length, arith, rules}
use Rattle.std.proofs.lemmas.Bool.Decides.{nat_tests}
use Rattle.memtable.proofs.StepLaws.{entered_none, entered_whole}
use Rattle.memtable.proofs.index.enter.Goals as goal

pub returns-then-n-index : goal.returns-then-n-index
returns-then-n-index c = search (rules, entered_whole)

pub returns-else-at-n : goal.returns-else-at-n
returns-else-at-n c =
    let o = c.else-at-n.either in
    let e : (leb c.args.at c.args.n && ltb c.args.n (length c.args.index.now)) ≡ false = grind (arith, nat_tests) in
    entered_none c.args.index.now c.args.n c.args.at c.args.place e
