-- What the words of a line ask for.
--   meant        what a command means to the store
use Rattle.std.specs.Prelude.{ℕ, cond, List, [], ◌∷◌, Some, None, Ok, Err, codes, Option, Result}
use Rattle.store.specs.House as house
use Rattle.names.specs.declared.flaw.Flaw.{Flaw}
use Rattle.names.specs.declared.flaw.Flaw.TheVariants.{NoMoment, Form}
use Rattle.commands.specs.declared.command.Command.{Command}
use Rattle.commands.specs.declared.command.Command.TheVariants.{Write, Erase, Get, Range, First, Last, Count, Flush, Compact}
use Rattle.names.specs.declared.name.Name.{Name}
use Rattle.names.specs.declared.name.Name.TheVariants as name
use Rattle.spelling.specs.Spelling.{numeral_of, plainly}
use Rattle.spelling.specs.Word.{Text}

abbrev pub or_flaw : Flaw → Option ℕ → Result ℕ Flaw
or_flaw e (Some n) = Ok n
or_flaw e None = Err e

abbrev pub moment_of : Text → Result ℕ Flaw
moment_of w = or_flaw NoMoment (numeral_of w)

abbrev pub end_of : Text → Option (List ℕ)
end_of w = cond (plainly w (codes "none")) None (Some w.1)

-- what a command means to the store
abbrev pub meant : Command → house.Command
meant (Write key m value) = house.write key.now m value.now
meant (Erase key m) = house.erase key.now m
meant (Get key m) = house.get key.now m
meant (Range from None m) = house.range from.now [] m
meant (Range from (Some to) m) = house.range from.now (to.now ∷ []) m
meant (First m) = house.first_key m
meant (Last m) = house.last_key m
meant (Count m) = house.count m
meant Flush = house.flush
meant (Compact m) = house.compact m

abbrev pub Said : Type 0
Said = Result house.Command Flaw

abbrev pub meant_by : Result Command Flaw → Said
meant_by (Ok c) = Ok (meant c)
meant_by (Err e) = Err e

abbrev pub at_moment : Result ℕ Flaw → (ℕ → house.Command) → Said
at_moment (Ok m) c = Ok (c m)
at_moment (Err e) c = Err e

-- the words behind a name, if there are as many as it takes
abbrev pub none_of : Name → List Text → Result (Unit {0}) Flaw
none_of n [] = Ok tt
none_of n (a ∷ ws) = Err (Form n)

abbrev pub one_of : Name → List Text → Result Text Flaw
one_of n [] = Err (Form n)
one_of n (a ∷ []) = Ok a
one_of n (a ∷ b ∷ ws) = Err (Form n)

abbrev pub two_of : Name → List Text → Result (Text × Text) Flaw
two_of n [] = Err (Form n)
two_of n (a ∷ []) = Err (Form n)
two_of n (a ∷ b ∷ []) = Ok (a, b)
two_of n (a ∷ b ∷ c ∷ ws) = Err (Form n)

abbrev pub three_of : Name → List Text → Result (Text × Text × Text) Flaw
three_of n [] = Err (Form n)
three_of n (a ∷ []) = Err (Form n)
three_of n (a ∷ b ∷ []) = Err (Form n)
three_of n (a ∷ b ∷ c ∷ []) = Ok (a, b, c)
three_of n (a ∷ b ∷ c ∷ d ∷ ws) = Err (Form n)

-- what a key and a moment say, and what two keys, or a key and a value, say with a moment
abbrev pub by_two : Result (Text × Text) Flaw → (List ℕ → ℕ → house.Command) → Said
by_two (Ok p) c = at_moment (moment_of p.1) (λ m. c p.0.1 m)
by_two (Err e) c = Err e

abbrev pub write_by : Result (Text × Text × Text) Flaw → Said
write_by (Ok p) = at_moment (moment_of p.1) (λ m. house.write p.0.1 m p.2.1)
write_by (Err e) = Err e

abbrev pub ends_of : Option (List ℕ) → List (List ℕ)
ends_of None = []
ends_of (Some k) = k ∷ []

abbrev pub range_by : Result (Text × Text × Text) Flaw → Said
range_by (Ok p) = at_moment (moment_of p.2) (λ m. house.range p.0.1 (ends_of (end_of p.1)) m)
range_by (Err e) = Err e

abbrev pub write_of : List Text → Said
write_of ws = write_by (three_of name.Write ws)

abbrev pub erase_of : List Text → Said
erase_of ws = by_two (two_of name.Erase ws) (λ k m. house.erase k m)

abbrev pub get_of : List Text → Said
get_of ws = by_two (two_of name.Get ws) (λ k m. house.get k m)

abbrev pub range_of : List Text → Said
range_of ws = range_by (three_of name.Range ws)

abbrev pub moment_by : Result Text Flaw → Result ℕ Flaw
moment_by (Ok w) = moment_of w
moment_by (Err e) = Err e

abbrev pub only_moment : Name → List Text → Result ℕ Flaw
only_moment n ws = moment_by (one_of n ws)

abbrev pub first_of : List Text → Said
first_of ws = at_moment (only_moment name.First ws) (λ m. house.first_key m)

abbrev pub last_of : List Text → Said
last_of ws = at_moment (only_moment name.Last ws) (λ m. house.last_key m)

abbrev pub count_of : List Text → Said
count_of ws = at_moment (only_moment name.Count ws) (λ m. house.count m)

abbrev pub compact_of : List Text → Said
compact_of ws = at_moment (only_moment name.Compact ws) (λ m. house.compact m)

abbrev pub flush_by : Result (Unit {0}) Flaw → Said
flush_by (Ok u) = Ok house.flush
flush_by (Err e) = Err e

abbrev pub flush_of : List Text → Said
flush_of ws = flush_by (none_of name.Flush ws)
