-- A table on pages: these pages hold the sorted view of a list of versions.
--   block_begin bs i     where block number i begins in the stream
--   before_block bs i    the version before it, if there is one
--   Lies start first n ps vs    its positions lie from page `start` on, its stream from page `first` on, and it has n blocks
use Rattle.std.specs.Prelude.{◌≡◌, ℕ, ◌+◌, ◌*◌, ◌/◌, ◌%◌, ◌<◌, ◌≤◌, true, List, [], length, take, drop, slice_index_or}
use Rattle.value.specs.Versions.{every, Version}
use Rattle.value.specs.Rising.{rising}
use Rattle.value.specs.Encoding.{in_limits}
use Rattle.value.specs.Sorted.{sort}
use Rattle.table.specs.Device.{Page, page_at}
use Rattle.table.specs.Blocks.{last_one}
use Rattle.table.specs.Layout.{blocks, block_bytes, entry, table_stream, table_entries}
use Rattle.table.specs.Sizes.{joined, block_length, blocks_length, page_count}
use Rattle.table.specs.Stream.{payloads, Holds}

abbrev pub block_begin : List (List Version) → ℕ → ℕ
block_begin bs i = blocks_length (take i bs)

abbrev pub before_block : List (List Version) → ℕ → List Version
before_block bs i = last_one [] (joined (take i bs))

pub record Lies (start first n : ℕ) (ps : List Page) (vs : List Version) : Type 0 where
  pub positions : Holds ps start (table_entries (sort vs))
  pub stream : Holds ps first (table_stream (sort vs))
  pub count : n ≡ length (blocks (sort vs))
  pub fits : every in_limits vs ≡ true
  pub rises : rising vs ≡ true

-- THE STATEMENTS. What happens to other pages does not matter.
abbrev pub LiesElsewhere : Type 0
LiesElsewhere =
    (start first n : ℕ) (ps qs : List Page) (vs : List Version) →
    ((i : ℕ) → i < page_count (length (table_entries (sort vs))) → page_at qs (start + i) ≡ page_at ps (start + i)) →
    ((i : ℕ) → i < page_count (length (table_stream (sort vs))) → page_at qs (first + i) ≡ page_at ps (first + i)) →
    Lies start first n ps vs → Lies start first n qs vs

-- A block's entry is on one page.
abbrev pub EntryRead : Type 0
EntryRead =
    (start first n : ℕ) (ps : List Page) (vs : List Version) (i : ℕ) → Lies start first n ps vs → i < n →
    take 8 (drop (8 * i % 504) (payloads ps (start + 8 * i / 504) 1)) ≡ entry (block_begin (blocks (sort vs)) i) (block_length (slice_index_or (blocks (sort vs)) i []))

-- A block's first bytes, as many as are wanted, are on the few pages that they lie on.
abbrev pub BlockRead : Type 0
BlockRead =
    (start first n : ℕ) (ps : List Page) (vs : List Version) (i m c : ℕ) → Lies start first n ps vs → i < n → m ≤ block_length (slice_index_or (blocks (sort vs)) i []) →
    block_begin (blocks (sort vs)) i % 504 + m ≤ 504 * c →
    take m (drop (block_begin (blocks (sort vs)) i % 504) (payloads ps (first + block_begin (blocks (sort vs)) i / 504) c))
    ≡ take m (block_bytes (before_block (blocks (sort vs)) i) (slice_index_or (blocks (sort vs)) i []))
