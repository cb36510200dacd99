-- Getting: what is seen of a key at a moment is looked up in memory and told as one row.
--   row_at a p      what is told of the version at a place of the arena: its key's length, the key, and the value
--   got k m key s   a step that is told to get: what memory is then, and the act
use Rattle.std.specs.Prelude.{ℕ, List, Some, None, Option}
use Rattle.value.specs.Versions.{pick}
use Rattle.memtable.specs.Arena.{gone_at}
use Rattle.store.specs.Promise.{Step, tells, done}
use Rattle.store.specs.Acts.{stepped}
use Rattle.store.specs.Control.{control, put_control}
use Rattle.store.specs.Regions.{arena_of, sought}
use Rattle.store.specs.declared.control.Phase.TheVariants.{Shown}
use Rattle.store.specs.declared.control.Control.{Control}
use Rattle.store.specs.Shown.{row_at}

unfoldable pub told_of : Control → List ℕ → Option ℕ → Step
told_of k m None = stepped m done
told_of k m (Some p) = pick (gone_at (arena_of m) p) (stepped m done) (stepped (put_control m (control Shown k.pages k.last k.table)) (tells (row_at (arena_of m) p)))

unfoldable pub got : Control → List ℕ → List ℕ → ℕ → Step
got k m key s = told_of k m (sought k.table m key s)
