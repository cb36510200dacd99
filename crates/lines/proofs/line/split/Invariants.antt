use Rattle.std.proofs.Common.{◌≡◌, map, drop, vec_items}
use Rattle.lines.specs.Words.{words_from, words_of}
use Rattle.spelling.specs.Word.{spelled}
use Rattle.lines.proofs.line.split.Given as goal

-- what is left of the line gives the words of the whole
abbrev pub invariant-loop-b : goal.invariant-loop-b
invariant-loop-b l = words_from l.place (vec_items l.bytes) (map spelled (vec_items l.words)) (drop l.b-index l.line) ≡ words_of l.line
