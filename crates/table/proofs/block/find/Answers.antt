use Rattle.std.proofs.Common.{ap, arith, rules}
use Rattle.table.specs.Reading.{found_from, found_in}
use Rattle.table.proofs.ReadingLaws.{walk_finds, walk_goes_on, walk_ends, walk_spent}
use Rattle.table.proofs.block.find.Goals as goal

pub versions-init : goal.versions-init
unfolding found_in
versions-init c = ap (found_from 94 c.args.block.now c.args.key.now c.args.moment) c.first-at.ensures

pub returns-then-is_wanted : goal.returns-then-is_wanted
returns-then-is_wanted c =
    walk_finds c.versions.i c.args.block.now c.args.key.now c.args.moment c.versions.at c.in-Some.place _ (omega arith) c.in-Some.is c.if-is_wanted.ensures c.versions.invariant

pub versions-preserved : goal.versions-preserved
versions-preserved c =
    walk_goes_on c.versions.i c.args.block.now c.args.key.now c.args.moment c.versions.at c.in-Some.place c.next-at.result _ (omega arith) c.in-Some.is
    c.if-is_wanted.ensures c.next-at.ensures c.versions.invariant

pub returns-after-versions : goal.returns-after-versions
returns-after-versions c = search (rules, walk_spent)

pub returns-in_default : goal.returns-in_default
returns-in_default c = search (rules, walk_ends)
