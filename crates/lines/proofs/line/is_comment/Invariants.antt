use Rattle.std.proofs.Common.{◌≡◌, drop}
use Rattle.lines.specs.Words.{comment}
use Rattle.lines.proofs.line.is_comment.Given as goal

-- what is left of the line says whether it is a comment
abbrev pub invariant-loop-b : goal.invariant-loop-b
invariant-loop-b l = comment (drop l.b-index l.line) ≡ comment l.line
