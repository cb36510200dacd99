use Rattle.std.proofs.Common.{rules}
use Rattle.merge.proofs.ChoiceLaws.{earlier_by, later_by}
use Rattle.merge.proofs.choice.choose.Goals as goal

pub returns-in-Some-Some : goal.returns-in-Some-Some
returns-in-Some-Some c = search (rules, earlier_by)

pub returns-in-Some-default : goal.returns-in-Some-default
returns-in-Some-default c = search (rules, later_by)
