-- Writing and erasing. Each check hands on a value, or the command leaves with its number; of several the first in their order is said.
--   checked o r m f     go on with what o hands on, or refuse with r
--   key_size .. within_pages    the checks, under their functions' names
--   wrote k m v         a step that is told to write v
--   accepted k m v      the same, where the table is known not to have its key at its moment
--   wrote_on k m p      a page came that tells whether it has
--   wrote_by k m l      all pages came that the lookup wanted
use Rattle.std.specs.Prelude.{ℕ, ◌+◌, List, length, Some, None, Option, ◌==◌, nat_lt}
use Rattle.value.specs.Versions.{pick, Version, version}
use Rattle.memtable.specs.Arena.{key_at, moment_at}
use Rattle.memtable.specs.declared.memtable.Memtable.{Memtable}
use Rattle.table.specs.Row.{octets}
use Rattle.table.specs.Lookup.{begun, with_page}
use Rattle.table.specs.declared.lookup.Lookup.{Lookup}
use Rattle.store.specs.Promise.{Step, done, refused}
use Rattle.store.specs.Acts.{stepped}
use Rattle.flushing_store.specs.Control.{base, control, put_control, to_phase, stage_region, ring_of}
use Rattle.store.specs.Regions.{wrap, in_arena, in_index}
use Rattle.flushing_store.specs.Stage.{staged, staged_version}
use Rattle.flushing_store.specs.Look.{extent_of, looked, page_in, asked}
use Rattle.flushing_store.specs.declared.look.Looked.{Looked}
use Rattle.flushing_store.specs.declared.look.Looked.TheVariants.{On, Found, Missing}
use Rattle.flushing_store.specs.declared.control.Phase.TheVariants.{Idle, Writing}
use Rattle.flushing_store.specs.declared.control.Control.{Control}
use Rattle.store.specs.Checks.{checked, key_size, value_size, proper_moment, not_earlier, unwritten, roomy, within_pages}

unfoldable pub put_in : Control → ℕ → Memtable → Version → List ℕ → List ℕ
put_in k place t v m =
    put_control (in_index k.base.table place (in_arena k.base.table.used v m)) (control (base Idle k.base.pages v.moment t) k.manifest k.lookup k.merging)

unfoldable pub accepted : Control → List ℕ → Version → Step
accepted k m v =
    checked (unwritten k.base.table m v.key v.moment) 3 m (λ place. checked (roomy k.base.table (length v.key) (length v.value)) 7 m (λ t.
    checked (within_pages k.base.pages (wrap (k.manifest.weight.all + t.weight))) 8 m (λ w. stepped (put_in k place t v m) done)))

-- how to look whether the table has a version of this moment; none where all of its moments are below it
abbrev pub sought_below : Control → ℕ → Option Lookup
sought_below k s = pick (nat_lt k.manifest.moments.last s) None (begun (extent_of k.manifest))

abbrev pub begun_write : Control → List ℕ → Version → Option Lookup → Step
begun_write k m v None = accepted k m v
begun_write k m v (Some l) = asked (to_phase k Writing) (staged v m) l

unfoldable pub wrote : Control → List ℕ → Version → Step
wrote k m v =
    checked (key_size v.key) 6 m (λ kl. checked (value_size v.value) 6 m (λ vl. checked (proper_moment v.moment) 6 m (λ s. checked (not_earlier k.base.last s) 3 m (λ s₁.
    begun_write k m (version v.key s₁ v.gone v.value) (sought_below k s₁)))))

unfoldable pub finished : Control → List ℕ → Step
finished k m = accepted (to_phase k Idle) (put_control m (to_phase k Idle)) (staged_version (put_control m (to_phase k Idle)))

-- what the table has
unfoldable pub written_by : Control → List ℕ → Looked → Step
written_by k m (On next) = asked k m next
written_by k m Missing = finished k m
written_by k m (Found p) = pick (p.moment == moment_at (stage_region m) 0) (stepped (put_control m (to_phase k Idle)) (refused 3)) (finished k m)

unfoldable pub wrote_by : Control → List ℕ → Lookup → Step
wrote_by k m l = written_by k m (looked l (extent_of k.manifest) (octets 2016 (ring_of m)) (key_at (stage_region m) 0) (wrap (moment_at (stage_region m) 0 + 1)))

unfoldable pub wrote_on : Control → List ℕ → List ℕ → Step
wrote_on k m p =
    pick (nat_lt (with_page k.lookup).load.got k.lookup.load.span.pages) (asked k (page_in k.lookup p m) (with_page k.lookup))
    (wrote_by k (page_in k.lookup p m) (with_page k.lookup))
