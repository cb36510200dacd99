-- Writing and erasing. Each check hands on a value, or the command leaves with its number; of several the first in their order is said.
--   checked o r s f     go on with what o hands on, or refuse with r
--   key_size .. within_pages    the checks, under their functions' names
--   wrote k m v         a step that is told to write v: what memory is then, and the act
use Rattle.std.specs.Prelude.{ℕ, List}
use Rattle.value.specs.Versions.{Version, version}
use Rattle.memtable.specs.declared.memtable.Memtable.{Memtable}
use Rattle.store.specs.Promise.{Step, done}
use Rattle.store.specs.Acts.{stepped}
use Rattle.store.specs.Control.{control, put_control}
use Rattle.store.specs.Regions.{in_arena, in_index}
use Rattle.store.specs.declared.control.Phase.TheVariants.{Idle}
use Rattle.store.specs.declared.control.Control.{Control}
use Rattle.store.specs.Checks.{checked, key_size, value_size, proper_moment, not_earlier, unwritten, roomy, within_pages}

unfoldable pub put_in : Control → ℕ → Memtable → Version → List ℕ → List ℕ
put_in k place t v m =
    put_control (in_index k.table place (in_arena k.table.used v m)) (control Idle k.pages v.moment t)

unfoldable pub wrote : Control → List ℕ → Version → Step
wrote k m v =
    checked (key_size v.key) 6 m (λ kl. checked (value_size v.value) 6 m (λ vl. checked (proper_moment v.moment) 6 m (λ s.
    checked (not_earlier k.last s) 3 m (λ s₁. checked (unwritten k.table m v.key s₁) 3 m (λ place.
    checked (roomy k.table kl vl) 7 m (λ t. checked (within_pages k.pages t.weight) 8 m (λ w. stepped (put_in k place t (version v.key s₁ v.gone v.value) m) done)))))))
