-- The machine itself: `own` is what `step` does, and what the main promise is about. It knows write, erase and get, and keeps what is written in memory alone.
--   known c          the commands that are known
--   turned k m ev    what a step does, by the control words
use Rattle.std.specs.Prelude.{ℕ, Bool, true, false, List, [], length, replicate, ◌==◌}
use Rattle.value.specs.Versions.{pick, version}
use Rattle.memtable.specs.Memtable.{none}
use Rattle.store.specs.House.{Command, write, erase, get, range, first_key, last_key, count, flush, compact}
use Rattle.store.specs.Promise.{Engine, Event, on, said, page, next, Step, done, refused, Whole}
use Rattle.store.specs.Control.{memory_words, control, control_of, put_control}
use Rattle.store.specs.Write.{wrote}
use Rattle.store.specs.Acts.{stepped}
use Rattle.store.specs.Get.{got}
use Rattle.store.specs.declared.control.Phase.{Phase}
use Rattle.store.specs.declared.control.Phase.TheVariants.{Idle, Shown}
use Rattle.store.specs.declared.control.Control.{Control}

unfoldable pub known : Command → Bool
known (write k m v) = true
known (erase k m) = true
known (get k s) = true
known (range a b s) = false
known (first_key s) = false
known (last_key s) = false
known (count s) = false
known flush = false
known (compact t) = false

-- power is there: nothing is kept yet
unfoldable pub powered : List ℕ → ℕ → Step
powered m pages = stepped (put_control m (control Idle pages 0 none)) done

-- a row was told: the get has ended
unfoldable pub went_on : Control → List ℕ → Phase → Step
went_on k m Shown = stepped (put_control m (control Idle k.pages k.last k.table)) done
went_on k m Idle = stepped m (refused 2)

unfoldable pub heard : Control → List ℕ → Command → Step
heard k m (write key s v) = wrote k m (version key s false v)
heard k m (erase key s) = wrote k m (version key s true [])
heard k m (get key s) = got k m key s
heard k m (range a b s) = stepped m (refused 2)
heard k m (first_key s) = stepped m (refused 2)
heard k m (last_key s) = stepped m (refused 2)
heard k m (count s) = stepped m (refused 2)
heard k m flush = stepped m (refused 2)
heard k m (compact t) = stepped m (refused 2)

unfoldable pub turned : Control → List ℕ → Event → Step
turned k m (on pages) = powered m pages
turned k m (said c) = heard k m c
turned k m (page p) = stepped m (refused 2)
turned k m next = went_on k m k.phase

unfoldable pub blank_memory : List ℕ
blank_memory = replicate memory_words 0

unfoldable pub own : Engine
own = record { start = blank_memory; step = λ m ev. pick (length m == memory_words) (turned (control_of m) m ev) (stepped m (refused 2)) }

-- THE MAIN PROMISE, of this machine
abbrev pub OwnWhole : Type 0
OwnWhole = Whole known own
