use Rattle.std.proofs.Common.{◌≡◌, ◌++◌, take, vec_items}
use Rattle.answers.specs.Lines.{all_shown}
use Rattle.answers.proofs.line.push_quoted.Given as goal

-- behind what stood before, the text is what the numbers so far show
abbrev pub invariant-loop-n : goal.invariant-loop-n
invariant-loop-n l = vec_items l.text ≡ vec_items l.initial.text ++ all_shown (take l.n-index l.numbers)
