-- A merge of the table with what is in memory, a round at a time. A round leaves a turn, the control state and what it wants done, and memory.
--   settled_turn             enough pages wait
--   put_turn                 a page is put: of data (data_turn), or of positions (positions_turn)
--   took_turn, took_bytes    bytes in hand go to the page of data
--   memory_head, leads       the head of what is in memory; does it come before the table's?
--   memory_turn, table_turn  the one or the other is handed over
--   closed_turn              all was handed over
--   next_turn                the next version is due
--   round                    what is due is done
use Rattle.std.specs.Prelude.{ℕ, ◌+◌, min, Bool, true, false, List, [], drop, Some, None, Option, nat_le, nat_lt, slice_index}
use Rattle.value.specs.Versions.{pick}
use Rattle.value.specs.Encoding.{key_at, version_at}
use Rattle.value.specs.declared.version.Place.{Place}
use Rattle.memtable.specs.Arena.{key_at as key_in}
use Rattle.merge.specs.Choice.{chosen, by_choice}
use Rattle.table.specs.Row.{octets}
use Rattle.table.specs.Writing.{due_of, took, put_data, put_positions, closed}
use Rattle.table.specs.Cursor.{listed_entry, wanted, ringed, head_place, advanced}
use Rattle.table.specs.declared.cursor.Cursor.{Cursor}
use Rattle.table.specs.declared.cursor.Want.{Want}
use Rattle.table.specs.declared.cursor.Want.TheVariants.{Positions as WantsPositions, Data as WantsData, Head, End}
use Rattle.table.specs.declared.writer.Writer.{Writer}
use Rattle.table.specs.declared.writer.Due.{Due}
use Rattle.table.specs.declared.writer.Due.TheVariants.{Data as DataDue, Positions as PositionsDue, Take, Next}
use Rattle.flushing_store.specs.Control.{merging, with_merging, to_phase, ring_of, list_of, hand_of}
use Rattle.store.specs.Regions.{wrap, within, index_of, arena_of}
use Rattle.flushing_store.specs.Octets.{put_octets}
use Rattle.flushing_store.specs.Stage.{version_of}
use Rattle.flushing_store.specs.Look.{extent_of}
use Rattle.flushing_store.specs.Give.{ended_block, given_writer, given_memory}
use Rattle.flushing_store.specs.Target.{new_start, new_data}
use Rattle.flushing_store.specs.declared.control.Phase.TheVariants.{Closed, Placed}
use Rattle.flushing_store.specs.declared.control.Control.{Control}
use Rattle.flushing_store.specs.declared.turn.Deed.{Deed}
use Rattle.flushing_store.specs.declared.turn.Deed.TheVariants.{Fetch, Data, Positions, Settle}
use Rattle.flushing_store.specs.declared.turn.Turn.{Turn}

pub record Went : Type 0 where
  pub turn : Turn
  pub memory : List ℕ

abbrev pub a_turn : Control → Option Deed → Turn
a_turn k d = record { control = k; deed = d }

abbrev pub went : Control → Option Deed → List ℕ → Went
went k d m = record { turn = a_turn k d; memory = m }

abbrev pub with_writer : Control → Writer → Control
with_writer k w = with_merging k (merging k.merging.cursor w k.merging.walked k.merging.waiting)

-- PAGES
abbrev pub settled_turn : Control → Turn
settled_turn k = a_turn (with_merging k (merging k.merging.cursor k.merging.writer k.merging.walked 0)) (Some Settle)

abbrev pub put_turn : Control → Writer → Deed → Turn
put_turn k w d = a_turn (with_merging k (merging k.merging.cursor w k.merging.walked (wrap (k.merging.waiting + 1)))) (Some d)

abbrev pub data_turn : Control → Turn
data_turn k = put_turn k (put_data k.merging.writer) (Data (wrap (new_data k + k.merging.writer.stream.put)) k.merging.writer.stream.fill)

abbrev pub positions_turn : Control → Turn
positions_turn k = put_turn k (put_positions k.merging.writer) (Positions (wrap (new_start k + k.merging.writer.positions.put)) k.merging.writer.positions.fill)

-- BYTES
unfoldable pub took_bytes : ℕ → ℕ → ℕ → List ℕ → List ℕ
took_bytes taken fill n m = within 151512 504 (put_octets fill (octets (min n 504) (drop (min taken 1310) (hand_of m)))) m

abbrev pub took_turn : Control → ℕ → Turn
took_turn k n = a_turn (with_writer k (took k.merging.writer n)) None

-- VERSIONS
abbrev pub memory_head : Control → List ℕ → Option ℕ
memory_head k m = pick (nat_lt k.merging.walked k.base.table.versions) (Some (slice_index (index_of m) k.merging.walked)) None

unfoldable pub leads : List ℕ → ℕ → List ℕ → Place → Bool
leads m at block p = by_choice (chosen (Some (key_in (arena_of m) at)) (Some (key_at block p))) true false false

abbrev pub handed_turn : Control → Control → Option Writer → Turn
handed_turn k k₁ None = a_turn k None
handed_turn k k₁ (Some w) = a_turn (with_writer k₁ w) None

abbrev pub walked_on : Control → Control
walked_on k = with_merging k (merging k.merging.cursor k.merging.writer (wrap (k.merging.walked + 1)) k.merging.waiting)

abbrev pub with_cursor : Control → Cursor → Control
with_cursor k c = with_merging k (merging c k.merging.writer k.merging.walked k.merging.waiting)

unfoldable pub memory_turn : Control → List ℕ → ℕ → Went
memory_turn k m at = record {
  turn = handed_turn k (walked_on k) (given_writer k.merging.writer (version_of (arena_of m) at));
  memory = given_memory k.merging.writer (version_of (arena_of m) at) m;
}

unfoldable pub table_turn : Control → List ℕ → List ℕ → Place → Went
table_turn k m block p = record {
  turn = handed_turn k (with_cursor k (advanced k.merging.cursor (listed_entry k.merging.cursor (list_of m)) p)) (given_writer k.merging.writer (version_at block p));
  memory = given_memory k.merging.writer (version_at block p) m;
}

abbrev pub last_turn : Bool → Control → Turn
last_turn true k = data_turn (to_phase k Closed)
last_turn false k = positions_turn (to_phase k Placed)

unfoldable pub closed_turn : Control → List ℕ → Went
closed_turn k m = record {
  turn = last_turn (nat_lt 0 k.merging.writer.stream.fill) (with_writer k (closed k.merging.writer));
  memory = ended_block k.merging.writer m;
}

abbrev pub heads_turn : Control → List ℕ → List ℕ → Option ℕ → Option Place → Went
heads_turn k m block None None = closed_turn k m
heads_turn k m block (Some at) None = memory_turn k m at
heads_turn k m block None (Some p) = table_turn k m block p
heads_turn k m block (Some at) (Some p) = pick (leads m at block p) (memory_turn k m at) (table_turn k m block p)

unfoldable pub head_turn : Control → List ℕ → List ℕ → Option Place → Went
head_turn k m block o = heads_turn k m block (memory_head k m) o

-- the block that the table's run has come to
abbrev pub block_in : Control → List ℕ → List ℕ
block_in k m = ringed (listed_entry k.merging.cursor (list_of m)).begin (min (listed_entry k.merging.cursor (list_of m)).len 1512) (ring_of m)

unfoldable pub block_turn : Control → List ℕ → Went
block_turn k m = head_turn k m (block_in k m) (head_place k.merging.cursor (block_in k m))

abbrev pub wanted_turn : Control → List ℕ → Want → Went
wanted_turn k m (WantsPositions q) = went k (Some (Fetch q)) m
wanted_turn k m (WantsData q) = went k (Some (Fetch q)) m
wanted_turn k m Head = block_turn k m
wanted_turn k m End = head_turn k m [] None

unfoldable pub next_turn : Control → List ℕ → Went
next_turn k m = wanted_turn k m (wanted k.merging.cursor (extent_of k.manifest) (list_of m))

abbrev pub due_turn : Control → List ℕ → Due → Went
due_turn k m DataDue = record { turn = data_turn k; memory = m }
due_turn k m PositionsDue = record { turn = positions_turn k; memory = m }
due_turn k m (Take n) = record { turn = took_turn k n; memory = took_bytes k.merging.writer.hand.taken k.merging.writer.stream.fill n m }
due_turn k m Next = next_turn k m

unfoldable pub round : Control → List ℕ → Went
round k m = pick (nat_le 254 k.merging.waiting) record { turn = settled_turn k; memory = m } (due_turn k m (due_of k.merging.writer))
