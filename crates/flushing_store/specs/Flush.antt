-- Flushing: table and memory are merged into the free half, the new table is settled, the list that names it is put and settled, and memory is emptied.
--   spun n k m          rounds until something is to be done, at most n
--   performed k d m     a step that does what a turn wants done
--   merged_on k m       a step that goes on with the merge
--   page_merged k m p   a page of the table came
--   flushed_step k m    a step that is told to flush
--   last_step, listed_step, committed_step    the last page of positions is put; the list is; it holds
use Rattle.std.specs.Prelude.{ℕ, zero, suc, min, List, ◌==◌, Some, None, Option, is_some}
use Rattle.value.specs.Versions.{pick}
use Rattle.memtable.specs.Memtable.{none}
use Rattle.table.specs.Row.{octets}
use Rattle.table.specs.Stream.{sealed}
use Rattle.table.specs.Writing.{new_writer}
use Rattle.table.specs.Cursor.{new_cursor, wanted, took_positions, list_with, took_data, ring_with}
use Rattle.table.specs.declared.cursor.Want.{Want}
use Rattle.table.specs.declared.cursor.Want.TheVariants.{Positions as WantsPositions, Data as WantsData, Head, End}
use Rattle.manifest.specs.Manifest.{manifest_page}
use Rattle.manifest.specs.Places.{slot_of}
use Rattle.store.specs.Promise.{Step, read, put, settle, done, refused}
use Rattle.store.specs.Acts.{stepped}
use Rattle.flushing_store.specs.Control.{base, merging, control, put_control, to_phase, list_of, data_of, entries_of}
use Rattle.store.specs.Regions.{within}
use Rattle.flushing_store.specs.Look.{extent_of}
use Rattle.flushing_store.specs.Target.{next_manifest}
use Rattle.flushing_store.specs.Round.{Went, went, positions_turn, with_cursor, round}
use Rattle.flushing_store.specs.declared.control.Phase.TheVariants.{Idle, Merging, Placed, Listed}
use Rattle.flushing_store.specs.declared.control.Control.{Control}
use Rattle.flushing_store.specs.declared.turn.Deed.{Deed}
use Rattle.flushing_store.specs.declared.turn.Deed.TheVariants.{Fetch, Data, Positions, Settle}

-- rounds from where one has come to
unfoldable pub spun_from : ℕ → Went → Went
spun_from zero t = t
spun_from (suc n) t = pick (is_some t.turn.deed) t (spun_from n (round t.turn.control t.memory))

unfoldable pub spun : ℕ → Control → List ℕ → Went
spun n k m = spun_from n (went k None m)

unfoldable pub performed : Control → Option Deed → List ℕ → Step
performed k None m = stepped (put_control m k) (refused 2)
performed k (Some (Fetch q)) m = stepped (put_control m k) (read q)
performed k (Some (Data q n)) m = stepped (put_control m k) (put q (sealed (octets (min n 504) (data_of m))))
performed k (Some (Positions q n)) m = stepped (put_control m k) (put q (sealed (octets (min n 504) (entries_of m))))
performed k (Some Settle) m = stepped (put_control m k) settle

abbrev pub done_by : Went → Step
done_by t = performed t.turn.control t.turn.deed t.memory

unfoldable pub merged_on : Control → List ℕ → Step
merged_on k m = done_by (spun 1024 k m)

-- the merge begins
abbrev pub begun_flush : Control → Control
begun_flush k = control (base Merging k.base.pages k.base.last k.base.table) k.manifest k.lookup (merging new_cursor new_writer 0 0)

unfoldable pub flushed_step : Control → List ℕ → Step
flushed_step k m = pick (k.base.table.versions == 0) (stepped m done) (merged_on (begun_flush k) m)

abbrev pub page_taken : Control → List ℕ → List ℕ → Want → Went
page_taken k m p (WantsPositions q) = went (with_cursor k (took_positions k.merging.cursor)) None (within 149698 504 (list_with p) m)
page_taken k m p (WantsData q) = went (with_cursor k (took_data k.merging.cursor)) None (within 147682 2016 (ring_with k.merging.cursor p) m)
page_taken k m p Head = went k None m
page_taken k m p End = went k None m

unfoldable pub page_merged : Control → List ℕ → List ℕ → Went
page_merged k m p = page_taken k m p (wanted k.merging.cursor (extent_of k.manifest) (list_of m))

abbrev pub page_step : Control → List ℕ → List ℕ → Step
page_step k m p = merged_on (page_merged k m p).turn.control (page_merged k m p).memory

-- THE END
unfoldable pub last_step : Control → List ℕ → Step
last_step k m = performed (positions_turn (to_phase k Placed)).control (positions_turn (to_phase k Placed)).deed m

unfoldable pub listed_step : Control → List ℕ → Step
listed_step k m = stepped (put_control m (to_phase k Listed)) (put (slot_of (next_manifest k).commit) (manifest_page (next_manifest k)))

abbrev pub emptied : Control → Control
emptied k = control (base Idle k.base.pages k.base.last none) (next_manifest k) k.lookup k.merging

unfoldable pub committed_step : Control → List ℕ → Step
committed_step k m = stepped (put_control m (emptied k)) done
