-- What is said of a line that has no words.
use Rattle.std.specs.Prelude.{ℕ, List, codes}
use Rattle.lines.specs.declared.flaw.Flaw.{Flaw}
use Rattle.lines.specs.declared.flaw.Flaw.TheVariants.{NoMemory, NotClosed, NoEscape, NoHexDigit, NoBlank}

abbrev pub reason_of : Flaw → List ℕ
reason_of NoMemory = codes "there is no memory for so long a line"
reason_of NotClosed = codes "a double quote is not closed"
reason_of NoEscape = codes "after \\ in quotes comes \", \\, n, t or xNN"
reason_of NoHexDigit = codes "after \\x come two hexadecimal digits"
reason_of NoBlank = codes "after a closing quote comes a blank"
