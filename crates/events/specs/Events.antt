-- How the shell tells the machine an event: the number, the moment and the rows that a step takes for it.
--   said_by      what a command is told by
--   told_by      what an event is told by: power, with the number of pages; a command; the page that was read, or no bytes where there is none; go on
--   Stepping     what a machine's steps may do: memory, what is taken, the row, what is told, and both afterwards
--   steps_of     those of the machine that a definition gives
--   Tells        the step of an event
use Rattle.std.specs.Prelude.{ℕ, List, [], Some, None}
use Rattle.store.specs.declared.told.Told.{Told}
use Rattle.commands.specs.declared.command.Command.{Command}
use Rattle.commands.specs.declared.command.Command.TheVariants.{Write, Erase, Get, Range, First, Last, Count, Flush, Compact}
use Rattle.events.specs.declared.event.Taken.{Taken}
use Rattle.events.specs.declared.event.Event.{Event}
use Rattle.events.specs.declared.event.Event.TheVariants.{On, Say, Back}
use Rattle.events.specs.declared.event.Reply.TheVariants.{Page, NoPage, Next}
use Rattle.store.specs.Promise.{Engine}
use Rattle.store.specs.Entry.{StepSays, step_fits}

-- an event's number, a number, and two rows of bytes
abbrev pub Takes : Type 0
Takes = ℕ × ℕ × List ℕ × List ℕ

abbrev pub taken : Taken → Takes
taken c = (c.kind, c.number, c.one.now, c.two.now)

abbrev pub said_by : Command → Takes
said_by (Write key m value) = (1, m, key.now, value.now)
said_by (Erase key m) = (2, m, key.now, [])
said_by (Get key m) = (3, m, key.now, [])
said_by (Range from None m) = (4, m, from.now, [])
said_by (Range from (Some to) m) = (5, m, from.now, to.now)
said_by (First m) = (6, m, [], [])
said_by (Last m) = (7, m, [], [])
said_by (Count m) = (8, m, [], [])
said_by Flush = (9, 0, [], [])
said_by (Compact m) = (10, m, [], [])

abbrev pub told_by : Event → List ℕ → Takes
told_by (On pages) p = (0, pages, [], [])
told_by (Say c) p = said_by c
told_by (Back Page) p = (11, 0, [], p)
told_by (Back NoPage) p = (11, 0, [], [])
told_by (Back Next) p = (12, 0, [], [])

abbrev pub Stepping : Type 1
Stepping = List ℕ → Takes → List ℕ → Told → List ℕ → List ℕ → Type 0

-- a step of the machine that a definition gives
abbrev pub steps_of : Engine → Stepping
steps_of own memory t out r memory₁ out₁ = StepSays own memory t.0 t.1 t.2 t.3 out (step_fits own memory t.0 t.2 t.3 out) r memory₁ out₁

abbrev pub Tells : Stepping → List ℕ → Event → List ℕ → List ℕ → Told → List ℕ → List ℕ → Type 0
Tells Steps memory e p out r memory₁ out₁ = Steps memory (told_by e p) out r memory₁ out₁
