-- How much a table takes, said by the weight of its versions.
--   joined bs            all versions of the blocks, in order
--   block_length b       the bytes of a block: its bound, and its versions
--   blocks_length bs     the bytes of blocks one behind another
--   page_count n         how many pages n bytes of payload take
--   most_blocks w        how many blocks versions that weigh w may take at most
--   position_pages w     how many pages are kept for their positions
--   most_pages w         how many pages a table of weight w may take at most
use Rattle.std.specs.Prelude.{◌≡◌, ℕ, suc, ◌+◌, ◌*◌, ◌/◌, ◌<◌, ◌≤◌, true, List, [], ◌∷◌, ◌++◌, length, drop}
use Rattle.value.specs.Versions.{every, Version, added_up, weight}
use Rattle.value.specs.Encoding.{in_limits}
use Rattle.table.specs.Blocks.{last_one}
use Rattle.table.specs.Layout.{block_limit, blocks, block_bytes, stream_of_blocks, versions_length, entry, entries, table_stream, table_entries}

unfoldable pub joined : List (List Version) → List Version
joined [] = []
joined (b ∷ bs) = b ++ joined bs

abbrev pub block_length : List Version → ℕ
block_length b = 8 + versions_length b

abbrev pub blocks_length : List (List Version) → ℕ
blocks_length bs = added_up block_length bs

abbrev pub page_count : ℕ → ℕ
page_count n = (n + 503) / 504

abbrev pub most_blocks : ℕ → ℕ
most_blocks w = suc (w / 800)

abbrev pub position_pages : ℕ → ℕ
position_pages w = page_count (8 * most_blocks w)

abbrev pub most_pages : ℕ → ℕ
most_pages w = w / 512 + 3

-- some version is in each block
abbrev pub SomeIn : List (List Version) → Type 0
SomeIn [] = Unit {0}
SomeIn (b ∷ bs) = (0 < length b) × SomeIn bs

-- THE STATEMENTS. The blocks hold the versions, none is empty, and none is longer than its limit.
abbrev pub BlocksHold : Type 0
BlocksHold = (vs : List Version) → (joined (blocks vs) ≡ vs) × SomeIn (blocks vs)

abbrev pub AllShort : List (List Version) → Type 0
AllShort [] = Unit {0}
AllShort (b ∷ bs) = (block_length b ≤ block_limit) × AllShort bs

abbrev pub BlocksShort : Type 0
BlocksShort = (vs : List Version) → every in_limits vs ≡ true → AllShort (blocks vs)

-- A block's bytes stand in the stream where its entry says.
abbrev pub BlockStands : Type 0
BlockStands =
    (xs : List (List Version)) (b : List Version) (ys : List (List Version)) → SomeIn (xs ++ b ∷ ys) →
    (drop (blocks_length xs) (stream_of_blocks [] (xs ++ b ∷ ys)) ≡ block_bytes (last_one [] (joined xs)) b ++ stream_of_blocks (last_one [] (joined (xs ++ b ∷ []))) ys)
    × (length (block_bytes (last_one [] (joined xs)) b) ≡ block_length b)
    × (drop (8 * length xs) (entries 0 (xs ++ b ∷ ys)) ≡ entry (blocks_length xs) (block_length b) ++ entries (blocks_length xs + block_length b) ys)

-- A table of weight w takes at most w / 512 and 3 pages, those kept for its positions among them.
abbrev pub TableFits : Type 0
TableFits =
    (vs : List Version) → every in_limits vs ≡ true →
    (length (table_entries vs) ≡ 8 * length (blocks vs)) × (length (blocks vs) ≤ most_blocks (weight vs)) × (position_pages (weight vs) + page_count (length (table_stream vs)) ≤ most_pages (weight vs))
