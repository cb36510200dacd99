-- What is said of words that are no command.
use Rattle.std.specs.Prelude.{ℕ, List, codes}
use Rattle.names.specs.declared.flaw.Flaw.{Flaw}
use Rattle.names.specs.declared.flaw.Flaw.TheVariants.{NoMemory, NoSuchCommand, NoMoment, NoActs, NoPart, Form}
use Rattle.names.specs.Names.{form_of}

abbrev pub reason_of : Flaw → List ℕ
reason_of NoMemory = codes "there is no memory for so long a line"
reason_of NoSuchCommand = codes "there is no such command; help lists them"
reason_of NoMoment = codes "a moment is a number from 0 to 18446744073709551615"
reason_of NoActs = codes "a number of acts is from 0 to 18446744073709551615"
reason_of NoPart = codes "what is left of a page is 0, 1 or 2"
reason_of (Form n) = form_of n
