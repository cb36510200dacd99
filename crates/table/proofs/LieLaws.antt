-- What lies on pages is read back, an entry and a block at a time.
use Rattle.std.proofs.Common.{◌≡◌, ℕ, suc, ◌+◌, ◌*◌, ◌<◌, ◌≤◌, List, [], ◌∷◌, ◌++◌, length, get_or, take, drop, sym, ap, ◌∙◌, subst, arith, length-append}
use Rattle.std.proofs.lemmas.List.{take_at, take-append-le, length-drop, length-take-le}
use Rattle.value.specs.Versions.{Version}
use Rattle.value.specs.Sorted.{sort}
use Rattle.table.specs.Blocks.{last_one}
use Rattle.table.specs.Layout.{blocks, block_bytes, stream_of_blocks, entry, entries, table_stream, table_entries}
use Rattle.table.specs.Sizes.{joined, block_length, blocks_length, SomeIn}
use Rattle.table.specs.Lies.{block_begin, before_block, LiesElsewhere, EntryRead, BlockRead}
use Rattle.table.proofs.LayoutLaws.{stream_is_blocks, entries_are_blocks}
use Rattle.table.proofs.SizeLaws.{blocks_hold, block_stands, length_entry}
use Rattle.table.proofs.StreamLaws.{holds_elsewhere, span_read}
use Rattle.table.proofs.SearchLaws.{split_at}

pub lies_elsewhere : LiesElsewhere
lies_elsewhere start first n ps qs vs a b l = record {
  positions = holds_elsewhere ps qs start (table_entries (sort vs)) a l.positions;
  stream = holds_elsewhere ps qs first (table_stream (sort vs)) b l.stream;
  count = l.count;
  fits = l.fits;
  rises = l.rises;
}

-- a block by its number: where its bytes and its entry stand
pub block_there : (us : List Version) (i : ℕ) → i < length (blocks us) →
    ((more : List ℕ) × (drop (block_begin (blocks us) i) (table_stream us) ≡ block_bytes (before_block (blocks us) i) (get_or (blocks us) i []) ++ more))
    × (length (block_bytes (before_block (blocks us) i) (get_or (blocks us) i [])) ≡ block_length (get_or (blocks us) i []))
    × ((more : List ℕ) × (drop (8 * i) (table_entries us) ≡ entry (block_begin (blocks us) i) (block_length (get_or (blocks us) i [])) ++ more))
block_there us i h =
    let bs = blocks us in
    let xs = take i bs in
    let b = get_or bs i [] in
    let ys = drop (suc i) bs in
    let q : bs ≡ xs ++ b ∷ ys = split_at bs i h in
    let (s, l, e) = block_stands xs b ys (subst SomeIn q (blocks_hold us).1) in
    let n : length xs ≡ i = length-take-le i bs (omega arith) in (
      (stream_of_blocks (last_one [] (joined (xs ++ b ∷ []))) ys, ap (drop (block_begin bs i)) (stream_is_blocks us ∙ ap (stream_of_blocks []) q) ∙ s),
      l,
      (entries (blocks_length xs + block_length b) ys, ap (λ j. drop (8 * j) (table_entries us)) (sym n) ∙ ap (drop (8 * length xs)) (entries_are_blocks us ∙ ap (entries 0) q) ∙ e),
    )

pub entry_read : EntryRead
entry_read start first n ps vs i l h =
    let us = sort vs in
    let k : i < length (blocks us) = omega (arith, l.count) in
    let (s, g, (more, e)) = block_there us i k in
    let x = entry (block_begin (blocks us) i) (block_length (get_or (blocks us) i [])) in
    let len = length_entry (block_begin (blocks us) i) (block_length (get_or (blocks us) i [])) in
    let room : 8 * i + 8 ≤ length (table_entries us) = omega (arith, ap length e, length-append x more, length-drop (8 * i) (table_entries us)) in
    span_read ps start (table_entries us) (8 * i) 8 1 l.positions room (omega arith) ∙ ap (take 8) e ∙ take_at x more 8 len

pub block_read : BlockRead
block_read start first n ps vs i m c l h w r =
    let us = sort vs in
    let k : i < length (blocks us) = omega (arith, l.count) in
    let ((more, s), g, e) = block_there us i k in
    let x = block_bytes (before_block (blocks us) i) (get_or (blocks us) i []) in
    let at : ℕ = block_begin (blocks us) i in
    let room : at + m ≤ length (table_stream us) = omega (arith, g, ap length s, length-append x more, length-drop at (table_stream us)) in
    span_read ps first (table_stream us) at m c l.stream room r ∙ ap (take m) s ∙ take-append-le m x more (omega arith)
