-- The machine itself: `own` is what `step` does, and what the main promise is about. It knows write, erase, get and flush.
--   went_on k m p     it goes on with what is under way
--   paged k m p q     a page came that was asked for
--   heard k m c       a command is said
--   turned k m ev     what a step does, by the control state
use Rattle.std.specs.Prelude.{ℕ, true, false, List, [], length, replicate, ◌==◌}
use Rattle.value.specs.Versions.{pick, version}
use Rattle.table.specs.Row.{octets}
use Rattle.store.specs.House.{Command, write, erase, get, range, first_key, last_key, count, flush, compact, core}
use Rattle.store.specs.Promise.{Engine, Event, on, said, page, next, Step, settle, done, refused, Whole}
use Rattle.store.specs.Acts.{stepped}
use Rattle.flushing_store.specs.Control.{memory_words, control_of, put_control, to_phase}
use Rattle.flushing_store.specs.Power.{powered, first_listed, second_listed}
use Rattle.flushing_store.specs.Write.{wrote, wrote_on}
use Rattle.flushing_store.specs.Get.{got, got_on}
use Rattle.flushing_store.specs.Flush.{flushed_step, merged_on, page_step, last_step, listed_step, committed_step}
use Rattle.flushing_store.specs.declared.control.Phase.{Phase}
use Rattle.flushing_store.specs.declared.control.Phase.TheVariants.{Idle, Shown, FirstList, AfterWhole, AfterTorn, Getting, Writing, Merging, Closed, Placed, Settled, Listed, Committed}
use Rattle.flushing_store.specs.declared.control.Control.{Control}

unfoldable pub went_on : Control → List ℕ → Phase → Step
went_on k m Idle = stepped m (refused 2)
went_on k m Shown = stepped (put_control m (to_phase k Idle)) done
went_on k m FirstList = stepped m (refused 2)
went_on k m AfterWhole = stepped m (refused 2)
went_on k m AfterTorn = stepped m (refused 2)
went_on k m Getting = stepped m (refused 2)
went_on k m Writing = stepped m (refused 2)
went_on k m Merging = merged_on k m
went_on k m Closed = last_step k m
went_on k m Placed = stepped (put_control m (to_phase k Settled)) settle
went_on k m Settled = listed_step k m
went_on k m Listed = stepped (put_control m (to_phase k Committed)) settle
went_on k m Committed = committed_step k m

-- of a page 512 bytes count, whatever the event says
unfoldable pub paged_by : Control → List ℕ → List ℕ → Phase → Step
paged_by k m p Idle = stepped m (refused 2)
paged_by k m p Shown = stepped m (refused 2)
paged_by k m p FirstList = first_listed k m p
paged_by k m p AfterWhole = second_listed k m true p
paged_by k m p AfterTorn = second_listed k m false p
paged_by k m p Getting = got_on k m p
paged_by k m p Writing = wrote_on k m p
paged_by k m p Merging = page_step k m p
paged_by k m p Closed = stepped m (refused 2)
paged_by k m p Placed = stepped m (refused 2)
paged_by k m p Settled = stepped m (refused 2)
paged_by k m p Listed = stepped m (refused 2)
paged_by k m p Committed = stepped m (refused 2)

abbrev pub paged : Control → List ℕ → List ℕ → Phase → Step
paged k m p q = paged_by k m (octets 512 p) q

unfoldable pub heard : Control → List ℕ → Command → Step
heard k m (write key s v) = wrote k m (version key s false v)
heard k m (erase key s) = wrote k m (version key s true [])
heard k m (get key s) = got k m key s
heard k m (range a b s) = stepped m (refused 2)
heard k m (first_key s) = stepped m (refused 2)
heard k m (last_key s) = stepped m (refused 2)
heard k m (count s) = stepped m (refused 2)
heard k m flush = flushed_step k m
heard k m (compact t) = stepped m (refused 2)

unfoldable pub turned : Control → List ℕ → Event → Step
turned k m (on pages) = powered k m pages
turned k m (said c) = heard k m c
turned k m (page p) = paged k m p k.base.phase
turned k m next = went_on k m k.base.phase

unfoldable pub blank_memory : List ℕ
blank_memory = replicate memory_words 0

unfoldable pub own : Engine
own = record { start = blank_memory; step = λ m ev. pick (length m == memory_words) (turned (control_of m) m ev) (stepped m (refused 2)) }

-- THE MAIN PROMISE, of this machine
abbrev pub OwnWhole : Type 0
OwnWhole = Whole core own
