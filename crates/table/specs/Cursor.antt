-- Walking over a table's versions in order, a page at a time.
--   new_cursor          before the first version
--   listed_entry c list the entry of the cursor's block, where the list holds the page of positions with it
--   wanted c x list     what the cursor waits for: a page of positions or data, or the head or the end is there
--   took_positions, took_data    a page of positions, or of data, more has come
--   list_with p list    the list with the page's payload in it
--   ring_with c p ring  the ring with the page's payload in the next of its four places
--   ringed b n ring     the n bytes of the stream from byte number b on, as the ring holds them
--   block_with e ring block    the row with the block's bytes at its front
--   head_place c block  where the version at the head lies in its block
--   advanced c e p      the cursor behind the version at p
--   OfBytes ps         the pages are made of bytes
--   AtVersion vs b at rest    at this place of block b is the first of the versions still to come
--   Came                which pages of a block came, and that they are where they are read
--   Walking             what a cursor knows: both of these, or that it is over
--   Heads               what is read where the head is there
use Rattle.std.specs.Prelude.{◌≡◌, ℕ, zero, suc, ◌+◌, ◌*◌, ◌/◌, ◌%◌, ◌<◌, ◌≤◌, min, true, List, [], ◌∷◌, ◌++◌, length, drop, Some, Option, ◌==◌, nat_le, nat_lt, slice_index, slice_index_or}
use Rattle.value.specs.Versions.{pick, Version}
use Rattle.value.specs.Numbers.{number, part, all_bytes}
use Rattle.value.specs.Encoding.{parsed, version_at, end_of}
use Rattle.value.specs.Sorted.{sort}
use Rattle.value.specs.declared.version.Place.{Place}
use Rattle.table.specs.Device.{Page, page_at}
use Rattle.table.specs.Layout.{block_limit, blocks, versions_length, table_stream, table_entries}
use Rattle.table.specs.Sizes.{joined, page_count}
use Rattle.table.specs.Stream.{payload}
use Rattle.table.specs.Span.{capped}
use Rattle.table.specs.Load.{placed}
use Rattle.table.specs.Writing.{wrap}
use Rattle.table.specs.Lookup.{an_entry, entry_of, There}
use Rattle.table.specs.Row.{octets}
use Rattle.table.specs.declared.lookup.Extent.{Extent}
use Rattle.table.specs.declared.lookup.Entry.{Entry}
use Rattle.table.specs.declared.cursor.Cursor.{Cursor}
use Rattle.table.specs.declared.cursor.Want.{Want}
use Rattle.table.specs.declared.cursor.Want.TheVariants.{Positions, Data, Head, End}

abbrev pub a_cursor : (block at listed read : ℕ) → Cursor
a_cursor block at listed read = record { block = block; at = at; listed = listed; read = read }

abbrev pub new_cursor : Cursor
new_cursor = a_cursor 0 8 0 0

abbrev pub listed_entry : Cursor → List ℕ → Entry
listed_entry c list = an_entry (number (octets 4 (drop (8 * (c.block % 63)) list))) (number (octets 4 (drop (8 * (c.block % 63) + 4) list)))

abbrev pub wanted : Cursor → Extent → List ℕ → Want
wanted c x list =
    pick (nat_le x.blocks c.block) End
    (pick (nat_le c.listed (c.block / 63)) (Positions (wrap (x.start + c.listed)))
    (pick (nat_lt c.read (page_count ((listed_entry c list).begin + (listed_entry c list).len))) (Data (wrap (x.data_at + c.read))) Head))

abbrev pub took_positions : Cursor → Cursor
took_positions c = a_cursor c.block c.at (wrap (c.listed + 1)) c.read

-- a list of another length stays as it is
unfoldable pub list_with : List ℕ → List ℕ → List ℕ
list_with p list = pick (length list == 504) (payload p) list

abbrev pub took_data : Cursor → Cursor
took_data c = a_cursor c.block c.at c.listed (wrap (c.read + 1))

abbrev pub ring_with : Cursor → List ℕ → List ℕ → List ℕ
ring_with c p ring = placed (c.read % 4) p ring

unfoldable pub ringed : ℕ → ℕ → List ℕ → List ℕ
ringed b zero ring = []
ringed b (suc n) ring = slice_index ring (b % 2016) % 256 ∷ ringed (suc b) n ring

abbrev pub block_with : Entry → List ℕ → List ℕ → List ℕ
block_with e ring block = ringed e.begin (min e.len (length block)) ring ++ drop (min e.len (length block)) block

abbrev pub head_place : Cursor → List ℕ → Option Place
head_place c block = parsed block c.at

abbrev pub advanced : Cursor → Entry → Place → Cursor
advanced c e p =
    pick (nat_le e.len (capped (end_of p))) (a_cursor (wrap (c.block + 1)) 8 c.listed c.read) (a_cursor c.block (capped (end_of p)) c.listed c.read)

-- WHAT A CURSOR KNOWS of a table with these versions, where `rest` are those still to come.
abbrev pub OfBytes : List Page → Type 0
OfBytes ps = (k : ℕ) → all_bytes (page_at ps k) ≡ true

-- the version at a place of a block is the first of those still to come
pub record AtVersion (vs : List Version) (block at : ℕ) (rest : List Version) : Type 0 where
  pub passed : List Version
  pub head : Version
  pub more : List Version
  pub block_is : slice_index_or (blocks (sort vs)) block [] ≡ passed ++ head ∷ more
  pub at_is : at ≡ 8 + versions_length passed
  pub rest_is : rest ≡ (head ∷ more) ++ joined (drop (suc block) (blocks (sort vs)))

-- of a block's pages, the one of positions is in the list once it came, and those of data that came are in the ring
pub record Came (x : Extent) (ps : List Page) (vs : List Version) (block listed read : ℕ) (ring list : List ℕ) : Type 0 where
  pub listed_from : block / 63 ≤ listed
  pub listed_to : listed ≤ suc (block / 63)
  pub in_list : listed ≡ suc (block / 63) → list ≡ payload (page_at ps (x.start + block / 63))
  pub read_from : (entry_of vs block).begin / 504 ≤ read
  pub read_to : read ≤ page_count ((entry_of vs block).begin + (entry_of vs block).len)
  pub in_ring : (q : ℕ) → (entry_of vs block).begin / 504 ≤ q → q < read → part (504 * (q % 4)) 504 ring ≡ payload (page_at ps (x.data_at + q))

pub record Walking (x : Extent) (ps : List Page) (vs : List Version) (c : Cursor) (ring list : List ℕ) (rest : List Version) : Type 0 where
  pub ring_long : length ring ≡ 2016
  pub list_long : length list ≡ 504
  pub within : c.block ≤ x.blocks
  pub over : c.block ≡ x.blocks → rest ≡ []
  pub on : c.block < x.blocks → AtVersion vs c.block c.at rest
  pub came : c.block < x.blocks → Came x ps vs c.block c.listed c.read ring list

-- the head is there: it is the first version still to come, and behind it the others are
pub record Heads (x : Extent) (ps : List Page) (vs : List Version) (c : Cursor) (ring list : List ℕ) (rest : List Version) (e : Entry) : Type 0 where
  pub version : Version
  pub others : List Version
  pub place : Place
  pub first : rest ≡ version ∷ others
  pub short : e.len ≤ block_limit
  pub found : head_place c (ringed e.begin e.len ring) ≡ Some place
  pub is : version_at (ringed e.begin e.len ring) place ≡ version
  pub behind : Walking x ps vs (advanced c e place) ring list others

-- THE STATEMENTS. A walk begins before the first version, each page that it waits for is the table's next, and version by version it comes to the end; what happens to other pages does not matter.
pub record CursorRight : Type 0 where
  pub opens : (x : Extent) (ps : List Page) (vs : List Version) (ring list : List ℕ) → There x ps vs → length ring ≡ 2016 → length list ≡ 504 → Walking x ps vs new_cursor ring list (sort vs)
  pub positions :
      (x : Extent) (ps : List Page) (vs : List Version) (c : Cursor) (ring list : List ℕ) (rest : List Version) (k : ℕ) → There x ps vs → Walking x ps vs c ring list rest → wanted c x list ≡ Positions k →
      (k ≡ x.start + c.listed) × (c.listed < page_count (length (table_entries (sort vs)))) × Walking x ps vs (took_positions c) ring (list_with (page_at ps k) list) rest
  pub «data» :
      (x : Extent) (ps : List Page) (vs : List Version) (c : Cursor) (ring list : List ℕ) (rest : List Version) (k : ℕ) → There x ps vs → Walking x ps vs c ring list rest → wanted c x list ≡ Data k →
      (k ≡ x.data_at + c.read) × (c.read < page_count (length (table_stream (sort vs)))) × Walking x ps vs (took_data c) (ring_with c (page_at ps k) ring) list rest
  pub head :
      (x : Extent) (ps : List Page) (vs : List Version) (c : Cursor) (ring list : List ℕ) (rest : List Version) → There x ps vs → OfBytes ps → Walking x ps vs c ring list rest → wanted c x list ≡ Head →
      Heads x ps vs c ring list rest (listed_entry c list)
  pub end : (x : Extent) (ps : List Page) (vs : List Version) (c : Cursor) (ring list : List ℕ) (rest : List Version) → Walking x ps vs c ring list rest → wanted c x list ≡ End → rest ≡ []
  pub elsewhere :
      (x : Extent) (ps qs : List Page) (vs : List Version) (c : Cursor) (ring list : List ℕ) (rest : List Version) → There x ps vs →
      ((i : ℕ) → i < page_count (length (table_entries (sort vs))) → page_at qs (x.start + i) ≡ page_at ps (x.start + i)) →
      ((i : ℕ) → i < page_count (length (table_stream (sort vs))) → page_at qs (x.data_at + i) ≡ page_at ps (x.data_at + i)) → Walking x ps vs c ring list rest → Walking x qs vs c ring list rest
