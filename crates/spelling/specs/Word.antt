-- A word as it was meant: whether it stood in quotes, and its bytes.
use Rattle.std.specs.Prelude.{ℕ, Bool, List, vec_items}
use Rattle.spelling.specs.declared.word.Word.{Word}

abbrev pub Text : Type 0
Text = Bool × List ℕ

abbrev pub spelled : Word → Text
spelled w = (w.quoted, vec_items w.bytes)
