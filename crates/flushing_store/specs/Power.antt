-- Power is there: the two lists are read, and the one that holds is chosen.
--   powered k m n          power is there, with so many pages
--   first_listed k m p     page 0 has come
--   second_listed k m b p  page 1 has come, and b says whether page 0 was whole
use Rattle.std.specs.Prelude.{ℕ, Bool, true, false, List}
use Rattle.memtable.specs.Memtable.{none}
use Rattle.manifest.specs.Manifest.{manifest_in, is_whole}
use Rattle.manifest.specs.Commit.{found_in, later_of}
use Rattle.manifest.specs.declared.fields.Manifest.{Manifest}
use Rattle.store.specs.Promise.{Step, read, done}
use Rattle.store.specs.Acts.{stepped}
use Rattle.flushing_store.specs.Control.{base, control, put_control}
use Rattle.flushing_store.specs.declared.control.Phase.{Phase}
use Rattle.flushing_store.specs.declared.control.Phase.TheVariants.{Idle, FirstList, AfterWhole, AfterTorn}
use Rattle.flushing_store.specs.declared.control.Control.{Control}

unfoldable pub powered : Control → List ℕ → ℕ → Step
powered k m n = stepped (put_control m (control (base FirstList n 0 none) k.manifest k.lookup k.merging)) (read 0)

abbrev pub first_phase : Bool → Phase
first_phase true = AfterWhole
first_phase false = AfterTorn

unfoldable pub first_listed : Control → List ℕ → List ℕ → Step
first_listed k m p =
    stepped (put_control m (control (base (first_phase (is_whole p)) k.base.pages k.base.last k.base.table) (manifest_in p) k.lookup k.merging)) (read 1)

-- the machine with the list that holds
abbrev pub woken : Control → Manifest → Control
woken k f = control (base Idle k.base.pages f.moments.last k.base.table) f k.lookup k.merging

unfoldable pub second_listed : Control → List ℕ → Bool → List ℕ → Step
second_listed k m whole p = stepped (put_control m (woken k (later_of record { whole = whole; manifest = k.manifest } (found_in p)))) done
