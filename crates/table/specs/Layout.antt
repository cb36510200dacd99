-- How a table's versions lie: one stream of blocks, each a bound and whole versions, at most 1,512 bytes; and the positions of the blocks in it, 8 bytes each.
--   starts n v         does v begin a new block, where the block being written has n bytes already?
--   blocks vs          the versions of the blocks, in order
--   block_bytes p b    the bytes of a block, where p holds the version before it, if there is one
--   stream_of_blocks   the bytes of blocks one behind another
--   stream_from n p vs the same, as a writer goes on with it: n bytes are in the block, p holds the last version
--   entry at n         where a block begins in the stream, and its length
--   entries at bs      the entries of blocks one behind another
--   entries_from b n vs   the same, as a writer goes on with it: the block being written begins at b and has n bytes
use Rattle.std.specs.Prelude.{◌≡◌, ℕ, ◌+◌, Bool, List, [], ◌∷◌, ◌++◌, nat_lt}
use Rattle.value.specs.Versions.{pick, Version, added_up}
use Rattle.value.specs.Numbers.{bytes_of}
use Rattle.value.specs.Encoding.{encoding, encoded_length, encode_all}
use Rattle.table.specs.Blocks.{bound_of, last_one}

abbrev pub block_limit : ℕ
block_limit = 1512

unfoldable pub starts : ℕ → Version → Bool
starts n v = nat_lt block_limit (n + encoded_length v)

-- the versions of the block being written, and then those of the others
unfoldable pub onto : Version → List (List Version) → List (List Version)
onto v [] = (v ∷ []) ∷ []
onto v (b ∷ bs) = (v ∷ b) ∷ bs

unfoldable pub cut : ℕ → List Version → List (List Version)
cut n [] = [] ∷ []
cut n (v ∷ vs) = pick (starts n v) ([] ∷ onto v (cut (8 + encoded_length v) vs)) (onto v (cut (n + encoded_length v) vs))

unfoldable pub blocks : List Version → List (List Version)
blocks [] = []
blocks (v ∷ vs) = onto v (cut (8 + encoded_length v) vs)

unfoldable pub block_bytes : List Version → List Version → List ℕ
block_bytes p [] = []
block_bytes p (v ∷ vs) = bytes_of 8 (bound_of p v) ++ encode_all (v ∷ vs)

unfoldable pub stream_of_blocks : List Version → List (List Version) → List ℕ
stream_of_blocks p [] = []
stream_of_blocks p (b ∷ bs) = block_bytes p b ++ stream_of_blocks (last_one p b) bs

unfoldable pub stream_from : ℕ → List Version → List Version → List ℕ
stream_from n p [] = []
stream_from n p (v ∷ vs) =
    pick (starts n v)
    (bytes_of 8 (bound_of p v) ++ (encoding v ++ stream_from (8 + encoded_length v) (v ∷ []) vs))
    (encoding v ++ stream_from (n + encoded_length v) (v ∷ []) vs)

-- a table's stream: no block is there, so the first version begins one
abbrev pub table_stream : List Version → List ℕ
table_stream vs = stream_from block_limit [] vs

abbrev pub versions_length : List Version → ℕ
versions_length vs = added_up encoded_length vs

unfoldable pub entry : ℕ → ℕ → List ℕ
entry at n = bytes_of 4 at ++ bytes_of 4 n

unfoldable pub entries : ℕ → List (List Version) → List ℕ
entries at [] = []
entries at (b ∷ bs) = entry at (8 + versions_length b) ++ entries (at + (8 + versions_length b)) bs

unfoldable pub entries_from : ℕ → ℕ → List Version → List ℕ
entries_from b n [] = entry b n
entries_from b n (v ∷ vs) = pick (starts n v) (entry b n ++ entries_from (b + n) (8 + encoded_length v) vs) (entries_from b (n + encoded_length v) vs)

unfoldable pub table_entries : List Version → List ℕ
table_entries [] = []
table_entries (v ∷ vs) = entries_from 0 (8 + encoded_length v) vs

-- THE STATEMENTS. What a writer writes are the blocks.
abbrev pub StreamIsBlocks : Type 0
StreamIsBlocks = (vs : List Version) → table_stream vs ≡ stream_of_blocks [] (blocks vs)

abbrev pub EntriesAreBlocks : Type 0
EntriesAreBlocks = (vs : List Version) → table_entries vs ≡ entries 0 (blocks vs)
