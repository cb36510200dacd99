-- Getting: what is seen of a key at a moment is looked up in memory, and where that does not decide in the table; it is told as one row.
--   got k m key s        a step that is told to get
--   got_below k m key s  memory does not decide
--   got_on k m p         a page came for a get
--   got_by k m l         all pages came that the lookup wanted
use Rattle.std.specs.Prelude.{ℕ, false, List, [], Some, None, Option, nat_lt}
use Rattle.value.specs.Versions.{pick, version}
use Rattle.value.specs.Encoding.{key_at, value_at}
use Rattle.memtable.specs.Arena.{gone_at, moment_at, key_at as key_in}
use Rattle.table.specs.Row.{octets}
use Rattle.table.specs.Lookup.{begun, with_page, loaded}
use Rattle.table.specs.declared.lookup.Lookup.{Lookup}
use Rattle.store.specs.House.{a_key}
use Rattle.store.specs.Promise.{Step, tells, done}
use Rattle.store.specs.Acts.{stepped}
use Rattle.flushing_store.specs.Control.{put_control, to_phase, stage_region, ring_of}
use Rattle.store.specs.Regions.{arena_of, sought}
use Rattle.flushing_store.specs.Stage.{staged}
use Rattle.flushing_store.specs.Look.{extent_of, looked, page_in, asked}
use Rattle.store.specs.Shown.{row_at, row_of}
use Rattle.flushing_store.specs.declared.look.Looked.{Looked}
use Rattle.flushing_store.specs.declared.look.Looked.TheVariants.{On, Found, Missing}
use Rattle.flushing_store.specs.declared.control.Phase.TheVariants.{Idle, Shown, Getting}
use Rattle.flushing_store.specs.declared.control.Control.{Control}

-- the table is looked through, unless no key there can be this one
abbrev pub begun_get : Control → List ℕ → List ℕ → ℕ → Option Lookup → Step
begun_get k m key s None = stepped m done
begun_get k m key s (Some l) = asked (to_phase k Getting) (staged (version key s false []) m) l

unfoldable pub got_below : Control → List ℕ → List ℕ → ℕ → Step
got_below k m key s = pick (a_key key) (begun_get k m key s (begun (extent_of k.manifest))) (stepped m done)

unfoldable pub told_of : Control → List ℕ → List ℕ → ℕ → Option ℕ → Step
told_of k m key s None = got_below k m key s
told_of k m key s (Some p) = pick (gone_at (arena_of m) p) (stepped m done) (stepped (put_control m (to_phase k Shown)) (tells (row_at (arena_of m) p)))

unfoldable pub got : Control → List ℕ → List ℕ → ℕ → Step
got k m key s = told_of k m key s (sought k.base.table m key s)

-- what the table has
unfoldable pub shown_by : Control → List ℕ → Lookup → List ℕ → Looked → Step
shown_by k m l row (On next) = asked k m next
shown_by k m l row Missing = stepped (put_control m (to_phase k Idle)) done
shown_by k m l row (Found p) =
    pick p.gone (stepped (put_control m (to_phase k Idle)) done)
    (stepped (put_control m (to_phase k Shown)) (tells (row_of (key_at (loaded l row) p) (value_at (loaded l row) p))))

unfoldable pub got_by : Control → List ℕ → Lookup → Step
got_by k m l =
    shown_by k m l (octets 2016 (ring_of m)) (looked l (extent_of k.manifest) (octets 2016 (ring_of m)) (key_in (stage_region m) 0) (moment_at (stage_region m) 0))

unfoldable pub got_on : Control → List ℕ → List ℕ → Step
got_on k m p =
    pick (nat_lt (with_page k.lookup).load.got k.lookup.load.span.pages) (asked k (page_in k.lookup p m) (with_page k.lookup))
    (got_by k (page_in k.lookup p m) (with_page k.lookup))
