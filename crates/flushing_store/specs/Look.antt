-- Looking in the table for a command, a page at a time.
--   extent_of f       where the table lies
--   looked            what the pages that came for a lookup say
--   page_in l p m     the memory with a page's payload at its place
--   asked k m l       a step that asks for the page that a lookup wants next
use Rattle.std.specs.Prelude.{ℕ, List, Some, None, Option}
use Rattle.value.specs.declared.version.Place.{Place}
use Rattle.table.specs.Load.{wanted, placed}
use Rattle.table.specs.Lookup.{entered, narrowed_by, found_by}
use Rattle.table.specs.declared.lookup.Extent.{Extent}
use Rattle.table.specs.declared.lookup.Lookup.{Lookup}
use Rattle.table.specs.declared.lookup.Stage.{Stage}
use Rattle.table.specs.declared.lookup.Stage.TheVariants.{Entry, Head, Block}
use Rattle.manifest.specs.declared.fields.Manifest.{Manifest}
use Rattle.store.specs.Promise.{Step, read, refused}
use Rattle.store.specs.Acts.{stepped}
use Rattle.flushing_store.specs.Control.{put_control, with_lookup}
use Rattle.store.specs.Regions.{within}
use Rattle.flushing_store.specs.declared.control.Control.{Control}
use Rattle.flushing_store.specs.declared.look.Looked.{Looked}
use Rattle.flushing_store.specs.declared.look.Looked.TheVariants.{On, Found, Missing}

abbrev pub extent_of : Manifest → Extent
extent_of f = record { start = f.table.start; data_at = f.table.data_at; blocks = f.table.blocks }

abbrev pub or_on : Option Lookup → Looked
or_on None = Missing
or_on (Some l) = On l

abbrev pub or_found : Option Place → Looked
or_found None = Missing
or_found (Some p) = Found p

abbrev pub looked_at : Stage → Lookup → Extent → List ℕ → List ℕ → ℕ → Looked
looked_at Entry l x row k s = On (entered l x row)
looked_at Head l x row k s = or_on (narrowed_by l x row k s)
looked_at Block l x row k s = or_found (found_by l row k s)

unfoldable pub looked : Lookup → Extent → List ℕ → List ℕ → ℕ → Looked
looked l x row k s = looked_at l.stage l x row k s

unfoldable pub page_in : Lookup → List ℕ → List ℕ → List ℕ
page_in l p m = within 147682 2016 (placed l.load.got p) m

abbrev pub asked_for : Control → List ℕ → Lookup → Option ℕ → Step
asked_for k m l None = stepped m (refused 2)
asked_for k m l (Some q) = stepped (put_control m (with_lookup k l)) (read q)

unfoldable pub asked : Control → List ℕ → Lookup → Step
asked k m l = asked_for k m l (wanted l.load)
