-- The machine's memory: 48 words of control, and regions for what is in memory, for a command under way, for pages that were read and for pages being filled.
--   region a n m       n words from a on
--   within a n f m     the memory with f done to them
--   wraps ws           the words, each cut to 64 bits
--   control_of m       the control words, as a struct
--   put_control m k    the memory with other control words
--   to_phase k p       another phase, and all else as it was; the like for other parts
use Rattle.std.specs.Prelude.{ℕ, List, [], ◌∷◌, ◌==◌, slice_index}
use Rattle.value.specs.Versions.{pick}
use Rattle.memtable.specs.Memtable.{memtable}
use Rattle.memtable.specs.declared.memtable.Memtable.{Memtable}
use Rattle.table.specs.declared.cursor.Cursor.{Cursor}
use Rattle.table.specs.declared.lookup.Lookup.{Lookup}
use Rattle.table.specs.Stages.{stage_of, stage_number}
use Rattle.table.specs.declared.writer.Writer.{Writer}
use Rattle.table.specs.Writing.{writer}
use Rattle.manifest.specs.Manifest.{half_number, half_of, flag}
use Rattle.manifest.specs.declared.fields.Manifest.{Manifest}
use Rattle.flushing_store.specs.declared.control.Phase.{Phase}
use Rattle.flushing_store.specs.declared.control.Phase.TheVariants.{Idle, Shown, FirstList, AfterWhole, AfterTorn, Getting, Writing, Merging as MergingPhase, Closed, Placed, Settled, Listed, Committed}
use Rattle.flushing_store.specs.declared.control.Base.{Base}
use Rattle.flushing_store.specs.declared.control.Merging.{Merging}
use Rattle.flushing_store.specs.declared.control.Control.{Control}
use Rattle.store.specs.Regions.{wrap, region, within}

-- REGIONS
abbrev pub memory_words : ℕ
memory_words = 152520

-- the version that a command under way is about; in a merge the version that was handed over last
abbrev pub stage_region : List ℕ → List ℕ
stage_region m = region 147520 162 m

-- pages of data that were read, and the page of positions that was
abbrev pub ring_of : List ℕ → List ℕ
ring_of m = region 147682 2016 m

abbrev pub list_of : List ℕ → List ℕ
list_of m = region 149698 504 m

-- the bytes in a writer's hand, and its pages of data and of positions
abbrev pub hand_of : List ℕ → List ℕ
hand_of m = region 150202 1310 m

abbrev pub data_of : List ℕ → List ℕ
data_of m = region 151512 504 m

abbrev pub entries_of : List ℕ → List ℕ
entries_of m = region 152016 504 m

unfoldable pub wraps : List ℕ → List ℕ
wraps [] = []
wraps (x ∷ xs) = wrap x ∷ wraps xs

abbrev pub phase_of : ℕ → Phase
phase_of n =
    pick (n == 1) Shown (pick (n == 2) FirstList (pick (n == 3) AfterWhole (pick (n == 4) AfterTorn (pick (n == 5) Getting (pick (n == 6) Writing
    (pick (n == 7) MergingPhase (pick (n == 8) Closed (pick (n == 9) Placed (pick (n == 10) Settled (pick (n == 11) Listed (pick (n == 12) Committed Idle)))))))))))

abbrev pub phase_number : Phase → ℕ
phase_number Idle = 0
phase_number Shown = 1
phase_number FirstList = 2
phase_number AfterWhole = 3
phase_number AfterTorn = 4
phase_number Getting = 5
phase_number Writing = 6
phase_number MergingPhase = 7
phase_number Closed = 8
phase_number Placed = 9
phase_number Settled = 10
phase_number Listed = 11
phase_number Committed = 12

abbrev pub base : Phase → ℕ → ℕ → Memtable → Base
base p n l t = record { phase = p; pages = n; last = l; table = t }

abbrev pub merging : Cursor → Writer → ℕ → ℕ → Merging
merging c w n q = record { cursor = c; writer = w; walked = n; waiting = q }

abbrev pub control : Base → Manifest → Lookup → Merging → Control
control b f l g = record { base = b; manifest = f; lookup = l; merging = g }

abbrev pub base_words : Base → List ℕ
base_words b = phase_number b.phase ∷ b.pages ∷ b.last ∷ b.table.versions ∷ b.table.used ∷ b.table.weight ∷ []

abbrev pub base_from : List ℕ → Base
base_from ws = base (phase_of (slice_index ws 0)) (slice_index ws 1) (slice_index ws 2) (memtable (slice_index ws 3) (slice_index ws 4) (slice_index ws 5))

abbrev pub manifest_words : Manifest → List ℕ
manifest_words f =
    f.commit ∷ f.layout.pages ∷ half_number f.layout.half ∷ f.layout.free ∷ f.moments.last ∷ f.moments.low ∷ f.weight.all ∷ flag f.weight.exact ∷ f.tables
    ∷ f.table.start ∷ f.table.data_at ∷ f.table.size ∷ f.table.blocks ∷ f.table.level ∷ f.table.latest ∷ []

abbrev pub manifest_from : List ℕ → Manifest
manifest_from ws = record {
  commit = slice_index ws 0;
  layout = record { pages = slice_index ws 1; half = half_of (slice_index ws 2); free = slice_index ws 3 };
  moments = record { last = slice_index ws 4; low = slice_index ws 5 };
  weight = record { all = slice_index ws 6; exact = (slice_index ws 7 == 1) };
  tables = slice_index ws 8;
  table = record { start = slice_index ws 9; data_at = slice_index ws 10; size = slice_index ws 11; blocks = slice_index ws 12; level = slice_index ws 13; latest = slice_index ws 14 };
}

abbrev pub lookup_words : Lookup → List ℕ
lookup_words l =
    stage_number l.stage ∷ l.search.low ∷ l.search.high ∷ l.entry.begin ∷ l.entry.len ∷ l.ahead.begin ∷ l.ahead.len
    ∷ l.load.span.page ∷ l.load.span.pages ∷ l.load.span.skip ∷ l.load.span.len ∷ l.load.got ∷ []

abbrev pub lookup_from : List ℕ → Lookup
lookup_from ws = record {
  stage = stage_of (slice_index ws 0);
  search = record { low = slice_index ws 1; high = slice_index ws 2 };
  entry = record { begin = slice_index ws 3; len = slice_index ws 4 };
  ahead = record { begin = slice_index ws 5; len = slice_index ws 6 };
  load = record { span = record { page = slice_index ws 7; pages = slice_index ws 8; skip = slice_index ws 9; len = slice_index ws 10 }; got = slice_index ws 11 };
}

abbrev pub merging_words : Merging → List ℕ
merging_words g =
    g.cursor.block ∷ g.cursor.at ∷ g.cursor.listed ∷ g.cursor.read ∷ g.writer.block.begin ∷ g.writer.block.used ∷ g.writer.block.count
    ∷ g.writer.hand.len ∷ g.writer.hand.taken ∷ g.writer.stream.fill ∷ g.writer.stream.put ∷ g.writer.positions.fill ∷ g.writer.positions.put
    ∷ g.walked ∷ g.waiting ∷ []

abbrev pub merging_from : List ℕ → Merging
merging_from ws =
    merging record { block = slice_index ws 0; at = slice_index ws 1; listed = slice_index ws 2; read = slice_index ws 3 }
    (writer (slice_index ws 4) (slice_index ws 5) (slice_index ws 6) (slice_index ws 7) (slice_index ws 8) (slice_index ws 9) (slice_index ws 10) (slice_index ws 11) (slice_index ws 12)) (slice_index ws 13) (slice_index ws 14)

unfoldable pub control_of : List ℕ → Control
control_of m = control (base_from (region 0 6 m)) (manifest_from (region 6 15 m)) (lookup_from (region 21 12 m)) (merging_from (region 33 15 m))

unfoldable pub put_control : List ℕ → Control → List ℕ
put_control m k =
    within 33 15 (λ x. wraps (merging_words k.merging)) (within 21 12 (λ x. wraps (lookup_words k.lookup))
    (within 6 15 (λ x. wraps (manifest_words k.manifest)) (within 0 6 (λ x. wraps (base_words k.base)) m)))

-- ONE PART MADE NEW
abbrev pub to_phase : Control → Phase → Control
to_phase k p = control (base p k.base.pages k.base.last k.base.table) k.manifest k.lookup k.merging

abbrev pub with_lookup : Control → Lookup → Control
with_lookup k l = control k.base k.manifest l k.merging

abbrev pub with_merging : Control → Merging → Control
with_merging k g = control k.base k.manifest k.lookup g
