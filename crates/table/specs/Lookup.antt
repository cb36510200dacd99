-- Looking in a table a page at a time.
--   entry_in row at     the entry at a place of a row
--   probed x f a        what is read next, where f is left to look at and the last block found ahead has entry a
--   begun x             the same at the beginning
--   entered, narrowed_by, found_by     what is done when an entry, a head, or the block that decides was read
--   There x ps vs       the table lies there, and its numbers have room
--   Looking             what a lookup knows: what is left to look at, and that what it reads is the table's
use Rattle.std.specs.Prelude.{◌≡◌, ℕ, suc, ◌+◌, ◌*◌, ◌<◌, ◌≤◌, min, Bool, true, false, List, [], length, take, Some, None, Option, ◌==◌, nat_lt, slice_index_or}
use Rattle.value.specs.Versions.{pick, Version}
use Rattle.value.specs.Numbers.{part, number_at}
use Rattle.value.specs.Sorted.{sort, lookup}
use Rattle.value.specs.declared.version.Place.{Place}
use Rattle.table.specs.Device.{Page, page_at}
use Rattle.table.specs.Blocks.{no_bound, ahead}
use Rattle.table.specs.Layout.{blocks, table_stream}
use Rattle.table.specs.Sizes.{block_length}
use Rattle.table.specs.Stream.{payloads}
use Rattle.table.specs.Span.{spanned}
use Rattle.table.specs.Load.{placed, took}
use Rattle.table.specs.Writing.{wrap}
use Rattle.table.specs.Search.{Between, middle, narrowed}
use Rattle.table.specs.Reading.{head_limit, block_bound, head_key, found_in, Finds}
use Rattle.table.specs.Lies.{block_begin, Lies}
use Rattle.table.specs.declared.search.Search.{Search}
use Rattle.table.specs.declared.lookup.Extent.{Extent}
use Rattle.table.specs.declared.lookup.Entry.{Entry}
use Rattle.table.specs.declared.lookup.Stage.{Stage}
use Rattle.table.specs.declared.lookup.Stage.TheVariants.{Entry as EntryStage, Head, Block}
use Rattle.table.specs.declared.lookup.Lookup.{Lookup}

abbrev pub an_entry : ℕ → ℕ → Entry
an_entry b n = record { begin = b; len = n }

abbrev pub entry_in : List ℕ → ℕ → Entry
entry_in row at = an_entry (number_at 4 at row) (number_at 4 (min (at + 4) 18446744073709551615) row)

abbrev pub a_lookup : Stage → Search → Entry → Entry → (first at len : ℕ) → Lookup
a_lookup g f e a first at len = record { stage = g; search = f; entry = e; ahead = a; load = record { span = spanned first at len; got = 0 } }

abbrev pub probed : Extent → Search → Entry → Option Lookup
probed x f a =
    pick (nat_lt f.low f.high) (Some (a_lookup EntryStage f a a x.start (wrap (middle f.low f.high * 8)) 8))
    (pick (f.low == 0) None (Some (a_lookup Block f a a x.data_at a.begin a.len)))

abbrev pub begun : Extent → Option Lookup
begun x = probed x (record { low = 0; high = x.blocks }) (an_entry 0 0)

abbrev pub entered : Lookup → Extent → List ℕ → Lookup
entered l x row =
    let e = entry_in row l.load.span.skip in
    a_lookup Head l.search e l.ahead x.data_at e.begin (min e.len head_limit)

-- the bytes that were wanted
abbrev pub loaded : Lookup → List ℕ → List ℕ
loaded l row = part l.load.span.skip l.load.span.len row

abbrev pub is_ahead : Lookup → List ℕ → List ℕ → ℕ → Bool
is_ahead l row k s = ahead k s (block_bound (loaded l row)) (head_key (loaded l row))

abbrev pub narrowed_by : Lookup → Extent → List ℕ → List ℕ → ℕ → Option Lookup
narrowed_by l x row k s =
    pick (is_ahead l row k s) (probed x (narrowed l.search true) l.entry) (probed x (narrowed l.search false) l.ahead)

abbrev pub found_by : Lookup → List ℕ → List ℕ → ℕ → Option Place
found_by l row k s = found_in (loaded l row) k s

-- WHAT A LOOKUP KNOWS of a table with these versions.
abbrev pub entry_of : List Version → ℕ → Entry
entry_of vs i = an_entry (block_begin (blocks (sort vs)) i) (block_length (slice_index_or (blocks (sort vs)) i []))

pub record There (x : Extent) (ps : List Page) (vs : List Version) : Type 0 where
  pub lies : Lies x.start x.data_at x.blocks ps vs
  pub start_small : x.start < 4294967296
  pub data_small : x.data_at < 4294967296
  pub few : x.blocks < 4294967296
  pub short : length (table_stream (sort vs)) < 4294967296

unfoldable pub ReadsRight : Extent → List Version → Lookup → Stage → Type 0
ReadsRight x vs l EntryStage = (l.search.low < l.search.high) × (l.load.span ≡ spanned x.start (8 * middle l.search.low l.search.high) 8)
ReadsRight x vs l Head =
    (l.search.low < l.search.high) × (l.entry ≡ entry_of vs (middle l.search.low l.search.high))
    × (l.load.span ≡ spanned x.data_at l.entry.begin (min l.entry.len head_limit))
ReadsRight x vs l Block =
    (m : ℕ) × (l.search.low ≡ suc m) × (l.search.high ≡ suc m) × (l.load.span ≡ spanned x.data_at (entry_of vs m).begin (entry_of vs m).len)

pub record Looking (x : Extent) (ps : List Page) (vs : List Version) (k : List ℕ) (s : ℕ) (l : Lookup) (row : List ℕ) : Type 0 where
  pub between : Between k s (blocks (sort vs)) l.search.low l.search.high
  pub kept : (m : ℕ) → l.search.low ≡ suc m → l.ahead ≡ entry_of vs m
  pub reads : ReadsRight x vs l l.stage
  pub came : take (504 * l.load.got) row ≡ payloads ps l.load.span.page l.load.got

-- it goes on, whatever stands in the row; or there is nothing
unfoldable pub GoesOn : Extent → List Page → List Version → List ℕ → ℕ → Option Lookup → Type 0
GoesOn x ps vs k s None = lookup (sort vs) k s ≡ []
GoesOn x ps vs k s (Some l) = (row : List ℕ) → Looking x ps vs k s l row

abbrev pub all_came : Lookup → Type 0
all_came l = l.load.got ≡ l.load.span.pages

abbrev pub with_page : Lookup → Lookup
with_page l = record { stage = l.stage; search = l.search; entry = l.entry; ahead = l.ahead; load = took l.load }

-- THE STATEMENTS. It begins; a page comes; an entry, a head, the block that decides was read.
pub record LookupRight : Type 0 where
  pub begins : (x : Extent) (ps : List Page) (vs : List Version) (k : List ℕ) (s : ℕ) → There x ps vs → s ≤ no_bound → GoesOn x ps vs k s (begun x)
  pub takes :
      (x : Extent) (ps : List Page) (vs : List Version) (k : List ℕ) (s : ℕ) (l : Lookup) (row : List ℕ) → There x ps vs → s ≤ no_bound → Looking x ps vs k s l row → l.load.got < l.load.span.pages → 2016 ≤ length row →
      Looking x ps vs k s (with_page l) (placed l.load.got (page_at ps (l.load.span.page + l.load.got)) row)
  pub enters :
      (x : Extent) (ps : List Page) (vs : List Version) (k : List ℕ) (s : ℕ) (l : Lookup) (row row₁ : List ℕ) → There x ps vs → s ≤ no_bound → Looking x ps vs k s l row → l.stage ≡ EntryStage → all_came l →
      Looking x ps vs k s (entered l x row) row₁
  pub narrows :
      (x : Extent) (ps : List Page) (vs : List Version) (k : List ℕ) (s : ℕ) (l : Lookup) (row : List ℕ) → There x ps vs → s ≤ no_bound → Looking x ps vs k s l row → l.stage ≡ Head → all_came l →
      GoesOn x ps vs k s (narrowed_by l x row k s)
  pub finds :
      (x : Extent) (ps : List Page) (vs : List Version) (k : List ℕ) (s : ℕ) (l : Lookup) (row : List ℕ) → There x ps vs → s ≤ no_bound → Looking x ps vs k s l row → l.stage ≡ Block → all_came l →
      Finds (loaded l row) (lookup (sort vs) k s) (found_by l row k s)
