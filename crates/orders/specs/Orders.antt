-- What a line asks for: something of the store, or of the shell itself.
--   parts_of     how much of each waiting page a stop leaves
--   order_of     what the words of a line ask for
--   Asks         an answer of the code is that, or that there was no memory
use Rattle.std.specs.Prelude.{◌≡◌, ℕ, cond, ◌⊎◌, List, [], ◌∷◌, ◌++◌, Some, None, Ok, Err, vec_items, codes, Option, Result, ◌==◌}
use Rattle.store.specs.House as house
use Rattle.names.specs.declared.flaw.Flaw.{Flaw}
use Rattle.names.specs.declared.flaw.Flaw.TheVariants.{NoMemory, NoSuchCommand, NoActs, NoPart, Form}
use Rattle.names.specs.declared.name.Name.{Name}
use Rattle.names.specs.declared.name.Name.TheVariants as name
use Rattle.orders.specs.declared.order.Part.{Part}
use Rattle.orders.specs.declared.order.Part.TheVariants.{Nothing, All, Half}
use Rattle.orders.specs.declared.order.Order.{Order}
use Rattle.orders.specs.declared.order.Order.TheVariants.{Pass, Say, Power, PowerAfter, Help, Quit}
use Rattle.commands.specs.Commands.{Said, meant, none_of, write_of, erase_of, get_of, range_of, first_of, last_of, count_of, flush_of, compact_of}
use Rattle.names.specs.Names.{name_of}
use Rattle.spelling.specs.Spelling.{numeral_of, plainly}
use Rattle.spelling.specs.Word.{Text}

abbrev pub part_number : ℕ → Result Part Flaw
part_number n = cond (n == 0) (Ok Nothing) (cond (n == 1) (Ok All) (cond (n == 2) (Ok Half) (Err NoPart)))

abbrev pub part_of : Option ℕ → Result Part Flaw
part_of (Some n) = part_number n
part_of None = Err NoPart

abbrev pub with_part : Result Part Flaw → (Part → Result (List Part) Flaw) → Result (List Part) Flaw
with_part (Ok p) go = go p
with_part (Err e) go = Err e

unfoldable pub parts_from : List Part → List Text → Result (List Part) Flaw
parts_from ps [] = Ok ps
parts_from ps (w ∷ ws) = with_part (part_of (numeral_of w)) (λ p. parts_from (ps ++ p ∷ []) ws)

abbrev pub parts_of : List Text → Result (List Part) Flaw
parts_of ws = parts_from [] ws

pub data Asked : Type 0 where
  pass : Asked
  says : house.Command → Asked
  power : Asked
  power_after : ℕ → List Part → Asked
  help : Asked
  quit : Asked

abbrev pub Answer : Type 0
Answer = Result Asked Flaw

abbrev pub meant_order : Order → Asked
meant_order Pass = pass
meant_order (Say c) = says (meant c)
meant_order Power = power
meant_order (PowerAfter cut) = power_after cut.acts (vec_items cut.left)
meant_order Help = help
meant_order Quit = quit

abbrev pub power_after_of : Option ℕ → Result (List Part) Flaw → Answer
power_after_of None ps = Err NoActs
power_after_of (Some n) (Ok ps) = Ok (power_after n ps)
power_after_of (Some n) (Err e) = Err e

abbrev pub power_of : List Text → Answer
power_of [] = Ok power
power_of (a ∷ []) = Err (Form name.Power)
power_of (a ∷ n ∷ ws) = cond (plainly a (codes "after")) (power_after_of (numeral_of n) (parts_of ws)) (Err (Form name.Power))

abbrev pub says_by : Said → Answer
says_by (Ok c) = Ok (says c)
says_by (Err e) = Err e

abbrev pub if_alone : Result (Unit {0}) Flaw → Asked → Answer
if_alone (Ok u) a = Ok a
if_alone (Err e) a = Err e

abbrev pub asked_of : Name → List Text → Answer
asked_of name.Write ws = says_by (write_of ws)
asked_of name.Erase ws = says_by (erase_of ws)
asked_of name.Get ws = says_by (get_of ws)
asked_of name.Range ws = says_by (range_of ws)
asked_of name.First ws = says_by (first_of ws)
asked_of name.Last ws = says_by (last_of ws)
asked_of name.Count ws = says_by (count_of ws)
asked_of name.Flush ws = says_by (flush_of ws)
asked_of name.Compact ws = says_by (compact_of ws)
asked_of name.Power ws = power_of ws
asked_of name.Help ws = if_alone (none_of name.Help ws) help
asked_of name.Quit ws = if_alone (none_of name.Quit ws) quit

abbrev pub named_by : Option Name → List Text → Answer
named_by None ws = Err NoSuchCommand
named_by (Some n) ws = asked_of n ws

abbrev pub order_of : List Text → Answer
order_of [] = Ok pass
order_of (w ∷ ws) = cond w.0 (Err NoSuchCommand) (named_by (name_of w.1) ws)

abbrev pub Asks : Result Order Flaw → Answer → Type 0
Asks (Ok o) a = a ≡ Ok (meant_order o)
Asks (Err e) a = (e ≡ NoMemory) ⊎ (a ≡ Err e)
