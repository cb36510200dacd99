-- What the shell notes of a command.
--   showing      it shows versions
--   counting     a row that is told for an event is one number
--   late_by      how many versions are not safe after it
--   acted        the acts so far, with one more
use Rattle.std.specs.Prelude.{ℕ, ◌+◌, min, Bool, true, false}
use Rattle.store.specs.declared.told.Told.{Told}
use Rattle.store.specs.declared.told.Told.TheVariants as told
use Rattle.commands.specs.declared.command.Command.{Command}
use Rattle.commands.specs.declared.command.Command.TheVariants.{Write, Erase, Get, Range, First, Last, Count, Flush, Compact}
use Rattle.events.specs.declared.event.Event.{Event}
use Rattle.events.specs.declared.event.Event.TheVariants.{On, Say, Back}
use Rattle.events.specs.declared.notes.Acts.{Acts}

-- one more, as far as 64 bits go
abbrev more : ℕ → ℕ
more n = min (n + 1) 18446744073709551615

abbrev pub showing : Command → Bool
showing (Write key m value) = false
showing (Erase key m) = false
showing (Get key m) = true
showing (Range from to m) = true
showing (First m) = true
showing (Last m) = true
showing (Count m) = false
showing Flush = false
showing (Compact m) = false

abbrev is_count : Command → Bool
is_count (Write key m value) = false
is_count (Erase key m) = false
is_count (Get key m) = false
is_count (Range from to m) = false
is_count (First m) = false
is_count (Last m) = false
is_count (Count m) = true
is_count Flush = false
is_count (Compact m) = false

abbrev pub counting : Event → Bool
counting (On pages) = false
counting (Say c) = is_count c
counting (Back reply) = false

abbrev pub late_by : Command → ℕ → ℕ
late_by (Write key m value) late = more late
late_by (Erase key m) late = more late
late_by (Get key m) late = late
late_by (Range from to m) late = late
late_by (First m) late = late
late_by (Last m) late = late
late_by (Count m) late = late
late_by Flush late = 0
late_by (Compact m) late = 0

abbrev pub no_acts : Acts
no_acts = record { read = 0; put = 0; settle = 0 }

abbrev pub acted : Acts → Told → Acts
acted a (told.Read at) = record { read = more a.read; put = a.put; settle = a.settle }
acted a (told.Put at) = record { read = a.read; put = more a.put; settle = a.settle }
acted a told.Settle = record { read = a.read; put = a.put; settle = more a.settle }
acted a (told.Tells len) = a
acted a told.Done = a
acted a (told.No k) = a
