-- Writing a table a page at a time. The writer by value, what each of its functions does, and what it still owes: the stream of data and the stream of positions.
--   due_of w        what it waits for
--   took, put_data, put_positions, gave, closed    the functions of the writer, under their names
--   Owes            with these bytes on the pages being filled and in hand, and these versions still to come, the pages put and what is to be put are the table's
use Rattle.std.specs.Prelude.{◌≡◌, ℕ, ◌+◌, ◌-◌, ◌*◌, ◌%◌, ◌<◌, ◌≤◌, min, Bool, true, List, [], ◌∷◌, ◌++◌, length, take, drop, ◌==◌, nat_le, nat_lt}
use Rattle.value.specs.Versions.{pick, or, every, Version}
use Rattle.value.specs.Numbers.{bytes_of}
use Rattle.value.specs.Encoding.{encoding, encoded_length, in_limits}
use Rattle.table.specs.Blocks.{bound_of}
use Rattle.table.specs.Layout.{block_limit, stream_from, entry, entries_from, table_stream, table_entries}
use Rattle.table.specs.Stream.{sealed, page_of}
use Rattle.table.specs.declared.writer.Filling.{Filling}
use Rattle.table.specs.declared.writer.Writer.{Writer}
use Rattle.table.specs.declared.writer.Due.{Due}
use Rattle.table.specs.declared.writer.Due.TheVariants.{Data, Positions, Take, Next}

abbrev pub wrap : ℕ → ℕ
wrap n = n % 18446744073709551616

-- a writer by its numbers: the block's begin, bytes and count; bytes in hand, and taken; bytes on the page, and pages put; the same of positions
abbrev pub writer : (begin used count len taken fill put listed lists : ℕ) → Writer
writer begin used count len taken fill put listed lists = record {
  block = record { begin = begin; used = used; count = count };
  hand = record { len = len; taken = taken };
  stream = record { fill = fill; put = put };
  positions = record { fill = listed; put = lists };
}

-- a page being filled with so many bytes more, and the one behind it
abbrev pub filled_by : Filling → ℕ → Filling
filled_by f n = record { fill = wrap (f.fill + n); put = f.put }

abbrev pub after_put : Filling → Filling
after_put f = record { fill = 0; put = wrap (f.put + 1) }

abbrev pub new_writer : Writer
new_writer = writer 0 0 0 0 0 0 0 0 0

abbrev pub due_of : Writer → Due
due_of w =
    pick (nat_le 504 w.stream.fill) Data (pick (nat_le 504 w.positions.fill) Positions
    (pick (nat_lt w.hand.taken w.hand.len) (Take (min (504 - w.stream.fill) (w.hand.len - w.hand.taken))) Next))

abbrev pub took : Writer → ℕ → Writer
took w n =
    writer w.block.begin w.block.used w.block.count w.hand.len (wrap (w.hand.taken + n)) (wrap (w.stream.fill + n)) w.stream.put w.positions.fill w.positions.put

abbrev pub put_data : Writer → Writer
put_data w = writer w.block.begin w.block.used w.block.count w.hand.len w.hand.taken 0 (wrap (w.stream.put + 1)) w.positions.fill w.positions.put

abbrev pub put_positions : Writer → Writer
put_positions w = writer w.block.begin w.block.used w.block.count w.hand.len w.hand.taken w.stream.fill w.stream.put 0 (wrap (w.positions.put + 1))

abbrev pub begins : Writer → ℕ → Bool
begins w size = or (w.block.count == 0) (nat_lt block_limit (w.block.used + size))

abbrev pub gave : Writer → ℕ → Writer
gave w size =
    pick (begins w size)
    (writer (pick (w.block.count == 0) 0 (wrap (w.block.begin + w.block.used))) (wrap (size + 8)) (wrap (w.block.count + 1)) (wrap (size + 8)) 0
    w.stream.fill w.stream.put (pick (w.block.count == 0) w.positions.fill (wrap (w.positions.fill + 8))) w.positions.put)
    (writer w.block.begin (wrap (w.block.used + size)) w.block.count size 0 w.stream.fill w.stream.put w.positions.fill w.positions.put)

abbrev pub closed : Writer → Writer
closed w =
    pick (w.block.count == 0) w
    (writer w.block.begin w.block.used w.block.count w.hand.len w.hand.taken w.stream.fill w.stream.put (wrap (w.positions.fill + 8)) w.positions.put)

-- WHAT IS OWED. The bytes of the block being written, as the stream counts them: before the first block it is as if one were full.
abbrev pub block_used : Writer → ℕ
block_used w = pick (w.block.count == 0) block_limit w.block.used

abbrev pub entries_left : Writer → List Version → List ℕ
entries_left w vs = pick (w.block.count == 0) (table_entries vs) (entries_from w.block.begin w.block.used vs)

-- what a version brings: a bound where it begins a block, and its encoding; and the entry of the block that it ends
abbrev pub brings : Writer → List Version → Version → List ℕ
brings w p v = pick (begins w (encoded_length v)) (bytes_of 8 (bound_of p v) ++ encoding v) (encoding v)

abbrev pub ends_block : Writer → Version → List ℕ
ends_block w v = pick (begins w (encoded_length v)) (pick (w.block.count == 0) [] (entry w.block.begin w.block.used)) []

-- stream and entries of the table; the bytes on the page, in hand, and on the page of positions; the last version, and those to come
pub record Owes (W E : List ℕ) (w : Writer) (page hand list : List ℕ) (p rest : List Version) : Type 0 where
  pub on_page : length page ≡ w.stream.fill
  pub in_hand : length hand ≡ w.hand.len
  pub on_list : length list ≡ w.positions.fill
  pub page_holds : w.stream.fill ≤ 504
  pub list_holds : w.positions.fill ≤ 504
  pub list_even : w.positions.fill % 8 ≡ 0
  pub hand_short : w.hand.len ≤ block_limit
  pub taken_part : w.hand.taken ≤ w.hand.len
  pub stream : drop (504 * w.stream.put) W ≡ page ++ (drop w.hand.taken hand ++ stream_from (block_used w) p rest)
  pub entries : drop (504 * w.positions.put) E ≡ list ++ entries_left w rest
  pub stream_within : 504 * w.stream.put ≤ length W
  pub entries_within : 504 * w.positions.put ≤ length E
  pub given : w.block.begin + w.block.used ≡ 504 * w.stream.put + w.stream.fill + (w.hand.len - w.hand.taken)
  pub fresh : w.block.count ≡ 0 → w.block.begin + w.block.used ≡ 0
  pub block_short : w.block.used ≤ block_limit
  pub in_limits_all : every in_limits rest ≡ true
  pub few : w.block.count + length rest < 4294967296
  pub short : length W < 4294967296
  pub list_short : length E < 4294967296

-- THE STATEMENTS: the writer's pages are the table's, however the handing over was cut into steps. At the beginning all is owed.
abbrev pub WriterBegins : Type 0
WriterBegins =
    (vs : List Version) → every in_limits vs ≡ true → length vs < 4294967296 → length (table_stream vs) < 4294967296 → length (table_entries vs) < 4294967296 →
    Owes (table_stream vs) (table_entries vs) new_writer [] [] [] [] vs

-- Bytes go from the hand to the page.
abbrev pub WriterTakes : Type 0
WriterTakes =
    (W E : List ℕ) (w : Writer) (page hand list : List ℕ) (p rest : List Version) (n : ℕ) → w.stream.fill + n ≤ 504 → w.hand.taken + n ≤ w.hand.len →
    Owes W E w page hand list p rest → Owes W E (took w n) (page ++ take n (drop w.hand.taken hand)) hand list p rest

-- A full page is the next page of its stream.
abbrev pub WriterPuts : Type 0
WriterPuts =
    (W E : List ℕ) (w : Writer) (page hand list : List ℕ) (p rest : List Version) → Owes W E w page hand list p rest →
    (w.stream.fill ≡ 504 → (page_of W w.stream.put ≡ sealed page) × Owes W E (put_data w) [] hand list p rest)
    × (w.positions.fill ≡ 504 → (page_of E w.positions.put ≡ sealed list) × Owes W E (put_positions w) page hand [] p rest)

-- A version is handed over: what it brings is in hand, and the entry of the block that it ends is on the page of positions.
abbrev pub WriterGives : Type 0
WriterGives =
    (W E : List ℕ) (w : Writer) (page hand list : List ℕ) (p : List Version) (v : Version) (rest : List Version) → w.positions.fill < 504 → w.hand.taken ≡ w.hand.len →
    Owes W E w page hand list p (v ∷ rest) → Owes W E (gave w (encoded_length v)) page (brings w p v) (list ++ ends_block w v) (v ∷ []) rest

-- At the end what is on the pages being filled, with the last block's entry, are the last pages.
abbrev pub WriterEnds : Type 0
WriterEnds =
    (W E : List ℕ) (w : Writer) (page hand list : List ℕ) (p : List Version) → w.hand.taken ≡ w.hand.len → Owes W E w page hand list p [] →
    (page_of W w.stream.put ≡ sealed page) × (length W ≡ 504 * w.stream.put + w.stream.fill)
    × (0 < w.block.count → (page_of E w.positions.put ≡ sealed (list ++ entry w.block.begin w.block.used)) × (length E ≡ 504 * w.positions.put + (w.positions.fill + 8)))
