-- What holds within a flush: where the waiting pages are, which is enough for every stop, and what they hold, which is needed at the commit.
use Rattle.std.proofs.Common.{◌≡◌, ℕ, suc, ◌+◌, ◌-◌, ◌*◌, ◌<◌, ◌≤◌, true, leb, List, [], ◌∷◌, ◌++◌, length, drop}
use Rattle.value.specs.Versions.{pick, every, Version, weight}
use Rattle.value.specs.Rising.{rising, last_moment}
use Rattle.value.specs.Numbers.{all_bytes}
use Rattle.value.specs.Encoding.{fits}
use Rattle.value.specs.Sorted.{sort, merge}
use Rattle.memtable.specs.Arena.{key_at, moment_at}
use Rattle.memtable.specs.Holds.{Holds}
use Rattle.memtable.specs.declared.memtable.Memtable.{Memtable}
use Rattle.table.specs.Device.{Device, Page, page_at, read_page, a_page}
use Rattle.table.specs.Layout.{blocks, table_stream, table_entries}
use Rattle.table.specs.Sizes.{page_count, position_pages}
use Rattle.table.specs.Stream.{sealed, page_of}
use Rattle.table.specs.Row.{octets}
use Rattle.table.specs.Writing.{Owes}
use Rattle.table.specs.Cursor.{Walking, wanted}
use Rattle.table.specs.declared.cursor.Want.TheVariants.{Positions, Data}
use Rattle.manifest.specs.Manifest.{Fits}
use Rattle.manifest.specs.Places.{half_start, other, in_half}
use Rattle.manifest.specs.Commit.{list_write}
use Rattle.manifest.specs.declared.fields.Manifest.{Manifest}
use Rattle.store.specs.House.{House, flush}
use Rattle.store.specs.Promise.{Event, said, page, next, World}
use Rattle.flushing_store.specs.Control.{memory_words, base, control_of, stage_region, ring_of, list_of, hand_of, data_of, entries_of}
use Rattle.store.specs.Regions.{index_of, arena_of}
use Rattle.flushing_store.specs.Look.{extent_of}
use Rattle.flushing_store.specs.Target.{next_manifest}
use Rattle.flushing_store.specs.declared.control.Phase.{Phase}
use Rattle.flushing_store.specs.declared.control.Phase.TheVariants.{Idle, Merging as MergingPhase, Closed, Placed, Settled, Listed, Committed as CommittedPhase}
use Rattle.flushing_store.specs.declared.control.Merging.{Merging}
use Rattle.flushing_store.specs.declared.control.Control.{Control}
use Rattle.flushing_store.proofs.RegionLaws.{SmallCursor, SmallWriter}
use Rattle.flushing_store.proofs.StoredLaws.{Stored, SameThere, AllPages}
use Rattle.flushing_store.proofs.OwnAccount.{Rest}

-- what stays the same from the beginning of a flush to its end: the house, the list of tables and the pages as they were
pub record Job (n pages : ℕ) (h : House) : Type 0 where
  pub list : Manifest
  pub before : List Page
  pub fresh : List Version
  pub table : Memtable
  pub commits : list.commit ≤ n
  pub stored : Stored pages h.safe list before
  pub all_is : h.versions ≡ h.safe ++ fresh
  pub some : 0 < length fresh
  pub rises : rising h.versions ≡ true
  pub last_is : h.last ≡ last_moment h.versions
  pub early : h.last < 9223372036854775808
  pub none_low : h.low ≡ 0
  pub fit : every fits fresh ≡ true
  pub room : weight h.versions ≤ 128 * pages
  pub fits_list : Fits list
  pub weighed : table.weight ≡ weight fresh
  pub counted : table.versions ≡ length fresh

module _ (n pages : ℕ) (h : House) (j : Job n pages h) where
  -- the new table
  abbrev pub new_stream : List ℕ
  new_stream = table_stream (sort h.versions)

  abbrev pub new_entries : List ℕ
  new_entries = table_entries (sort h.versions)

  abbrev pub start_page : ℕ
  start_page = half_start pages (other j.list.layout.half)

  abbrev pub data_page : ℕ
  data_page = start_page + position_pages (weight h.versions)

  -- WHERE the waiting pages are: in the free half
  pub record Working (d : Device) : Type 0 where
    pub sized : length d.pages ≡ pages
    pub same : SameThere pages j.list j.before d.pages
    pub waits : in_half pages (other j.list.layout.half) d.queue ≡ true
    pub all_pages : AllPages d.pages
    pub whole_writes : every (λ w. a_page w.page) d.queue ≡ true

  -- WHAT they hold: the first pages of the new table
  pub record Written (lists datas : ℕ) (d : Device) : Type 0 where
    pub entries : (i : ℕ) → i < lists → read_page d (start_page + i) ≡ page_of new_entries i
    pub stream : (i : ℕ) → i < datas → read_page d (data_page + i) ≡ page_of new_stream i

  -- memory and control, in any phase of the flush
  pub record KeepsMemory (p : Phase) (k : Control) (m : List ℕ) : Type 0 where
    pub long : length m ≡ memory_words
    pub base_is : k.base ≡ base p pages h.last j.table
    pub manifest_is : k.manifest ≡ j.list
    pub holds : Holds (index_of m) (arena_of m) j.table j.fresh

  -- the version that was handed over last is staged
  pub data Staged (m : List ℕ) : ℕ → List Version → Type 0 where
    none_yet : Staged m 0 []
    last_given : (c : ℕ) (u : Version) → key_at (stage_region m) 0 ≡ u.key → moment_at (stage_region m) 0 ≡ u.moment → Staged m (suc c) (u ∷ [])

  -- the two runs, and what the writer owes of them
  pub record Merges (g : Merging) (m : List ℕ) : Type 0 where
    pub table_rest : List Version
    pub given : List Version
    pub walking : Walking (extent_of j.list) j.before h.safe g.cursor (ring_of m) (list_of m) table_rest
    pub table_fit : every fits table_rest ≡ true
    pub walked : g.walked ≤ length j.fresh
    pub owes :
        Owes new_stream new_entries g.writer (octets g.writer.stream.fill (data_of m)) (octets g.writer.hand.len (hand_of m)) (octets g.writer.positions.fill (entries_of m)) given
        (merge (drop g.walked (sort j.fresh)) table_rest)
    pub staged : Staged m g.writer.block.count given
    pub listed : 504 * g.writer.positions.put + g.writer.positions.fill ≡ 8 * (g.writer.block.count - 1)
    pub hand_fits : g.writer.hand.len ≤ 1302
    pub waiting : g.waiting ≤ 254
    pub small_cursor : SmallCursor g.cursor
    pub small_writer : SmallWriter g.writer

  -- acts that are left: pages to be put, with a settle for some of them; pages to be read
  abbrev pub puts_left : Merging → ℕ
  puts_left g = (page_count (length new_stream) - g.writer.stream.put) + (page_count (length new_entries) - g.writer.positions.put)

  abbrev pub reads_left : Merging → ℕ
  reads_left g = (page_count (length (table_entries (sort h.safe))) - g.cursor.listed) + (page_count (length (table_stream (sort h.safe))) - g.cursor.read)

  abbrev pub acts_left : Merging → ℕ
  acts_left g = 8 + (3 * puts_left g + (reads_left g + pick (leb 254 g.waiting) 1 0))

  -- the page that was read is the one that the cursor waits for
  pub data Fetched (g : Merging) (m : List ℕ) (ev : Event) : Type 0 where
    positions_came : (q : ℕ) → wanted g.cursor (extent_of j.list) (list_of m) ≡ Positions q → ev ≡ page (page_at j.before q) → Fetched g m ev
    data_came : (q : ℕ) → wanted g.cursor (extent_of j.list) (list_of m) ≡ Data q → ev ≡ page (page_at j.before q) → Fetched g m ev

  -- nothing is left to be handed over, and all pages of data were put
  pub record Ended (lists : ℕ) (g : Merging) (d : Device) : Type 0 where
    pub counted : g.writer.block.count ≡ length (blocks (sort h.versions))
    pub datas : g.writer.stream.put ≡ page_count (length new_stream)
    pub written : Written lists (page_count (length new_stream)) d
    pub small_cursor : SmallCursor g.cursor
    pub small_writer : SmallWriter g.writer
    pub small_walked : g.walked < 18446744073709551616
    pub small_waiting : g.waiting < 18446744073709551616

  -- the last page of positions is still in memory
  pub record LastPage (g : Merging) (m : List ℕ) : Type 0 where
    pub number : suc g.writer.positions.put ≡ page_count (length new_entries)
    pub filled : g.writer.positions.fill ≤ 504
    pub is : page_of new_entries g.writer.positions.put ≡ sealed (octets g.writer.positions.fill (entries_of m))
    pub of_bytes : all_bytes (octets g.writer.positions.fill (entries_of m)) ≡ true

-- WITHIN A FLUSH
pub data Flushes (n pages : ℕ) (h : House) (w : World) (ev : Event) (ts : List (List ℕ)) (μ : ℕ) : Type 0 where
  begun : (r : Rest n pages h Idle w) → ev ≡ said flush → ts ≡ [] →
      μ ≡ 10 + (3 * (page_count (length (table_stream (sort h.versions))) + page_count (length (table_entries (sort h.versions))))
      + (page_count (length (table_entries (sort h.safe))) + page_count (length (table_stream (sort h.safe))))) → Flushes n pages h w ev ts μ
  going : (j : Job n pages h) → KeepsMemory n pages h j MergingPhase (control_of w.memory) w.memory → Merges n pages h j (control_of w.memory).merging w.memory → Working n pages h j w.device →
      Written n pages h j (control_of w.memory).merging.writer.positions.put (control_of w.memory).merging.writer.stream.put w.device → ev ≡ next → ts ≡ [] →
      μ ≡ suc (acts_left n pages h j (control_of w.memory).merging) → Flushes n pages h w ev ts μ
  fetched : (j : Job n pages h) → KeepsMemory n pages h j MergingPhase (control_of w.memory) w.memory → Merges n pages h j (control_of w.memory).merging w.memory → Working n pages h j w.device →
      Written n pages h j (control_of w.memory).merging.writer.positions.put (control_of w.memory).merging.writer.stream.put w.device → Fetched n pages h j (control_of w.memory).merging w.memory ev → ts ≡ [] →
      μ ≡ acts_left n pages h j (control_of w.memory).merging → Flushes n pages h w ev ts μ
  closed : (j : Job n pages h) → KeepsMemory n pages h j Closed (control_of w.memory) w.memory → LastPage n pages h j (control_of w.memory).merging w.memory → Working n pages h j w.device →
      Ended n pages h j (control_of w.memory).merging.writer.positions.put (control_of w.memory).merging w.device → ev ≡ next → ts ≡ [] → μ ≡ 5 → Flushes n pages h w ev ts μ
  placed : (j : Job n pages h) → KeepsMemory n pages h j Placed (control_of w.memory) w.memory → Working n pages h j w.device →
      Ended n pages h j (page_count (length (table_entries (sort h.versions)))) (control_of w.memory).merging w.device → ev ≡ next → ts ≡ [] → μ ≡ 4 → Flushes n pages h w ev ts μ
  settled : (j : Job n pages h) → KeepsMemory n pages h j Settled (control_of w.memory) w.memory → Working n pages h j w.device → w.device.queue ≡ [] →
      Ended n pages h j (page_count (length (table_entries (sort h.versions)))) (control_of w.memory).merging w.device → ev ≡ next → ts ≡ [] → μ ≡ 3 → Flushes n pages h w ev ts μ
  listed : (j : Job n pages h) → KeepsMemory n pages h j Listed (control_of w.memory) w.memory → (ps : List Page) →
      Working n pages h j (record { pages = ps; queue = [] }) → Ended n pages h j (page_count (length (table_entries (sort h.versions)))) (control_of w.memory).merging (record { pages = ps; queue = [] }) →
      w.device ≡ record { pages = ps; queue = list_write (next_manifest (control_of w.memory)) ∷ [] } → ev ≡ next → ts ≡ [] → μ ≡ 2 → Flushes n pages h w ev ts μ
  committed : (j : Job n pages h) → KeepsMemory n pages h j CommittedPhase (control_of w.memory) w.memory → w.device.queue ≡ [] →
      Stored pages h.versions (next_manifest (control_of w.memory)) w.device.pages → (next_manifest (control_of w.memory)).commit ≤ suc n → ev ≡ next → ts ≡ [] → μ ≡ 1 → Flushes n pages h w ev ts μ
