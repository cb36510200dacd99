use Rattle.std.proofs.Common.{◌≡◌, ◌*◌, ◌++◌, take, drop}
use Rattle.manifest.specs.Manifest.{row_of}
use Rattle.manifest.proofs.fields.Manifest.encode.Given as goal

-- the words so far are written
abbrev pub invariant-loop-i : goal.invariant-loop-i
invariant-loop-i l = l.page ≡ row_of (take l.i l.word-items) ++ drop (8 * l.i) l.initial.page
