-- The writer's pages are the table's, however the handing over was cut into steps: every step keeps what is owed.
use Rattle.std.proofs.Common.{◌≡◌, ℕ, suc, ◌+◌, ◌*◌, ◌%◌, ◌<◌, ◌≤◌, Bool, true, false, eqb, ltb, List, [], ◌∷◌, ◌++◌, length, take, drop, sym, refl, ap, ◌∙◌, subst, append_assoc, append-nil, arith, length-append, ltb-false, lt-ltb, ne_eqb, eqb-true}
use borrow.Author.Tests.{eqb-false}
use Rattle.std.proofs.lemmas.List.{drop-drop, drop_at, take-append-drop, length-drop, length-take-le, drop_all}
use Rattle.value.specs.Versions.{every, Version}
use Rattle.value.specs.Numbers.{bytes_of}
use Rattle.value.specs.Encoding.{encoding, encoded_length, in_limits}
use Rattle.value.proofs.TestLaws.{and_left_of, and_right_of}
use Rattle.value.proofs.NumberLaws.{length_bytes_of}
use Rattle.value.proofs.EncodingLaws.{length_encoding}
use Rattle.table.specs.Blocks.{bound_of}
use Rattle.table.specs.Layout.{block_limit, starts, stream_from, entry, entries_from, table_entries}
use Rattle.table.specs.Sum.{page_sum}
use Rattle.table.specs.Stream.{payload, sealed, page_of}
use Rattle.table.specs.Writing.{wrap, writer, put_data, put_positions, gave, block_used, entries_left, brings, ends_block, Owes, WriterBegins, WriterTakes, WriterPuts, WriterGives, WriterEnds}
use Rattle.table.proofs.SizeLaws.{short_version, length_entry}
use Rattle.table.proofs.StreamLaws.{payload_front}
use Rattle.table.specs.declared.writer.Writer.{Writer}

-- bytes in hand go to the page
pub takes : WriterTakes
takes W E w page hand list p rest n f h o =
    let t : ℕ = w.hand.taken in
    let s = stream_from (block_used w) p rest in
    let f₁ : wrap (w.stream.fill + n) ≡ w.stream.fill + n = omega arith in
    let h₁ : wrap (t + n) ≡ t + n = omega (arith, o.hand_short) in
    let cut : length (take n (drop t hand)) ≡ n = length-take-le n (drop t hand) (omega (arith, length-drop t hand, o.in_hand)) in
    record {
      on_page = length-append page (take n (drop t hand)) ∙ omega (arith, cut, o.on_page, f₁);
      in_hand = o.in_hand;
      on_list = o.on_list;
      page_holds = omega arith;
      list_holds = o.list_holds;
      hand_short = o.hand_short;
      taken_part = omega arith;
      stream =
          o.stream
          ∙ ap (λ x. page ++ (x ++ s)) (sym (take-append-drop n (drop t hand)) ∙ ap (λ x. take n (drop t hand) ++ x) (drop-drop n t hand ∙ ap (λ x. drop x hand) (sym h₁)))
          ∙ ap (λ x. page ++ x) (append_assoc (take n (drop t hand)) (drop (wrap (t + n)) hand) s)
          ∙ sym (append_assoc page (take n (drop t hand)) (drop (wrap (t + n)) hand ++ s));
      entries = o.entries;
      stream_within = o.stream_within;
      entries_within = o.entries_within;
      given = rw (f₁, h₁) (omega (arith, o.given));
      fresh = o.fresh;
      list_even = o.list_even;
      block_short = o.block_short;
      in_limits_all = o.in_limits_all;
      few = o.few;
      short = o.short;
      list_short = o.list_short;
    }

-- a full page is the next page of its stream
full_page : (bs page more : List ℕ) (n : ℕ) → drop (504 * n) bs ≡ page ++ more → length page ≡ 504 → page_of bs n ≡ sealed page
unfolding page_of sealed
full_page bs page more n e l =
    let q : payload (drop (504 * n) bs) ≡ payload page =
    ap payload e ∙ payload_front page more l ∙ sym (ap payload (sym (append-nil page)) ∙ payload_front page [] l) in
    ap (λ x. x ++ bytes_of 8 (page_sum x)) q

-- past a full page the stream goes on
past_page : (bs page more : List ℕ) (n : ℕ) → drop (504 * n) bs ≡ page ++ more → length page ≡ 504 → drop (504 * suc n) bs ≡ more
past_page bs page more n e l =
    let k : 504 * suc n ≡ 504 * n + 504 = omega arith in
    ap (λ j. drop j bs) k ∙ sym (drop-drop 504 (504 * n) bs) ∙ ap (drop 504) e ∙ drop_at page more 504 l

reaches : (bs page more : List ℕ) (n : ℕ) → drop (504 * n) bs ≡ page ++ more → length page ≡ 504 → 504 * n ≤ length bs → 504 * suc n ≤ length bs
reaches bs page more n e l h = omega (arith, ap length e, length-append page more, length-drop (504 * n) bs)

-- a page of data is put
puts_data : (W E : List ℕ) (w : Writer) (page hand list : List ℕ) (p rest : List Version) → w.stream.fill ≡ 504 → Owes W E w page hand list p rest →
    (page_of W w.stream.put ≡ sealed page) × Owes W E (put_data w) [] hand list p rest
puts_data W E w page hand list p rest f o =
    let l : length page ≡ 504 = o.on_page ∙ f in
    let more = drop w.hand.taken hand ++ stream_from (block_used w) p rest in
    let r = reaches W page more w.stream.put o.stream l o.stream_within in
    let k : wrap (w.stream.put + 1) ≡ suc w.stream.put = omega (arith, o.short) in (
      full_page W page more w.stream.put o.stream l,
      record {
        on_page = refl;
        in_hand = o.in_hand;
        on_list = o.on_list;
        page_holds = omega arith;
        list_holds = o.list_holds;
        hand_short = o.hand_short;
        taken_part = o.taken_part;
        stream = ap (λ j. drop (504 * j) W) k ∙ past_page W page more w.stream.put o.stream l;
        entries = o.entries;
        stream_within = rw k r;
        entries_within = o.entries_within;
        given = rw k (omega (arith, o.given));
        fresh = o.fresh;
        list_even = o.list_even;
        block_short = o.block_short;
        in_limits_all = o.in_limits_all;
        few = o.few;
        short = o.short;
        list_short = o.list_short;
      },
    )

-- a page of positions is put
puts_positions : (W E : List ℕ) (w : Writer) (page hand list : List ℕ) (p rest : List Version) → w.positions.fill ≡ 504 → Owes W E w page hand list p rest →
    (page_of E w.positions.put ≡ sealed list) × Owes W E (put_positions w) page hand [] p rest
puts_positions W E w page hand list p rest f o =
    let l : length list ≡ 504 = o.on_list ∙ f in
    let r = reaches E list (entries_left w rest) w.positions.put o.entries l o.entries_within in
    let k : wrap (w.positions.put + 1) ≡ suc w.positions.put = omega (arith, o.list_short) in (
      full_page E list (entries_left w rest) w.positions.put o.entries l,
      record {
        on_page = o.on_page;
        in_hand = o.in_hand;
        on_list = refl;
        page_holds = o.page_holds;
        list_holds = omega arith;
        hand_short = o.hand_short;
        taken_part = o.taken_part;
        stream = o.stream;
        entries = ap (λ j. drop (504 * j) E) k ∙ past_page E list (entries_left w rest) w.positions.put o.entries l;
        stream_within = o.stream_within;
        entries_within = rw k r;
        given = o.given;
        fresh = o.fresh;
        list_even = refl;
        block_short = o.block_short;
        in_limits_all = o.in_limits_all;
        few = o.few;
        short = o.short;
        list_short = o.list_short;
      },
    )

-- no more is owed than there is
owes_within : (W E : List ℕ) (w : Writer) (page hand list : List ℕ) (p rest : List Version) → Owes W E w page hand list p rest → w.block.begin + w.block.used ≤ length W
owes_within W E w page hand list p rest o =
    let s = stream_from (block_used w) p rest in
    omega (
      arith,
      o.given,
      o.on_page,
      o.in_hand,
      o.stream_within,
      ap length o.stream,
      length-drop (504 * w.stream.put) W,
      length-append page (drop w.hand.taken hand ++ s),
      length-append (drop w.hand.taken hand) s,
      length-drop w.hand.taken hand,
    )

-- A VERSION IS HANDED OVER. The stream has just what it brings.
stream_brings : (n : ℕ) (p : List Version) (v : Version) (rest : List Version) → starts n v ≡ true →
    stream_from n p (v ∷ rest) ≡ (bytes_of 8 (bound_of p v) ++ encoding v) ++ stream_from (8 + encoded_length v) (v ∷ []) rest
unfolding stream_from
stream_brings n p v rest e = rw e (sym (append_assoc (bytes_of 8 (bound_of p v)) (encoding v) (stream_from (8 + encoded_length v) (v ∷ []) rest)))

stream_goes_on : (n : ℕ) (p : List Version) (v : Version) (rest : List Version) → starts n v ≡ false →
    stream_from n p (v ∷ rest) ≡ encoding v ++ stream_from (n + encoded_length v) (v ∷ []) rest
unfolding stream_from
stream_goes_on n p v rest e = rw e refl

length_head : (p : List Version) (v : Version) → length (bytes_of 8 (bound_of p v) ++ encoding v) ≡ 8 + encoded_length v
length_head p v = length-append (bytes_of 8 (bound_of p v)) (encoding v) ∙ rw (length_bytes_of 8 (bound_of p v), length_encoding v) refl

-- what is left in hand is nothing
hand_empty : (hand : List ℕ) (t l : ℕ) → t ≡ l → length hand ≡ l → drop t hand ≡ []
hand_empty hand t l e f = drop_all t hand (omega arith)

-- what a version leaves, by what it brings: a new block, or the same
given_owes :
    (W E : List ℕ) (w : Writer) (page hand list : List ℕ) (p : List Version) (v : Version) (rest : List Version) (begin used count : ℕ) (bring ended : List ℕ) →
    w.hand.taken ≡ w.hand.len → Owes W E w page hand list p (v ∷ rest) →
    stream_from (block_used w) p (v ∷ rest) ≡ bring ++ stream_from used (v ∷ []) rest → entries_left w (v ∷ rest) ≡ ended ++ entries_from begin used rest →
    begin + used ≡ w.block.begin + w.block.used + length bring → 0 < count → count ≤ suc w.block.count → used ≤ block_limit → length bring ≤ block_limit →
    w.positions.fill + length ended ≤ 504 → length ended % 8 ≡ 0 →
    Owes W E (writer begin used count (length bring) 0 w.stream.fill w.stream.put (w.positions.fill + length ended) w.positions.put) page bring (list ++ ended) (v ∷ []) rest
unfolding every
given_owes W E w page hand list p v rest begin used count bring ended t o s e g c₀ c u b l m =
    let z = ne_eqb count 0 (omega arith) in
    record {
      on_page = o.on_page;
      in_hand = refl;
      on_list = length-append list ended ∙ ap (λ x. x + length ended) o.on_list;
      page_holds = o.page_holds;
      list_holds = l;
      list_even = omega (arith, o.list_even);
      hand_short = b;
      taken_part = omega arith;
      stream = rw z (o.stream ∙ ap (λ x. page ++ (x ++ stream_from (block_used w) p (v ∷ rest))) (hand_empty hand w.hand.taken w.hand.len t o.in_hand) ∙ ap (λ x. page ++ x) s);
      entries = rw z (o.entries ∙ ap (λ x. list ++ x) e ∙ sym (append_assoc list ended (entries_from begin used rest)));
      stream_within = o.stream_within;
      entries_within = o.entries_within;
      given = omega (arith, o.given);
      fresh = λ n. absurd (omega arith);
      block_short = u;
      in_limits_all = and_right_of (in_limits v) (every in_limits rest) o.in_limits_all;
      few = omega (arith, o.few);
      short = o.short;
      list_short = o.list_short;
    }

-- the first block begins
gives_first : (W E : List ℕ) (w : Writer) (page hand list : List ℕ) (p : List Version) (v : Version) (rest : List Version) → w.positions.fill < 504 → w.hand.taken ≡ w.hand.len →
    eqb w.block.count 0 ≡ true → Owes W E w page hand list p (v ∷ rest) → Owes W E (gave w (encoded_length v)) page (brings w p v) (list ++ ends_block w v) (v ∷ []) rest
unfolding every starts table_entries
gives_first W E w page hand list p v rest f t e o =
    let size : ℕ = encoded_length v in
    let (lo, hi) = short_version v (and_left_of (in_limits v) (every in_limits rest) o.in_limits_all) in
    let head = length_head p v in
    let z = eqb-true w.block.count 0 e in
    let n = o.fresh z in
    let u : 8 + size ≡ wrap (size + 8) = omega arith in
    let c : 1 ≡ wrap (w.block.count + 1) = omega arith in
    let l : w.positions.fill + 0 ≡ w.positions.fill = omega arith in
    let first : starts block_limit v ≡ true = lt-ltb block_limit (block_limit + size) (omega arith) in
    let owes = given_owes W E w page hand list p v rest 0 (8 + size) 1 (bytes_of 8 (bound_of p v) ++ encoding v) [] t o
    (rw e (stream_brings block_limit p v rest first)) (rw e refl) (omega arith) (omega arith) (omega arith) (omega arith) (omega arith) (omega arith) refl in
    rw e (subst (λ x. Owes W E x page (bytes_of 8 (bound_of p v) ++ encoding v) (list ++ []) (v ∷ []) rest)
    (λ i. writer 0 (u i) (c i) ((head ∙ u) i) 0 w.stream.fill w.stream.put (l i) w.positions.put) owes)

-- another block begins
gives_new : (W E : List ℕ) (w : Writer) (page hand list : List ℕ) (p : List Version) (v : Version) (rest : List Version) → w.positions.fill < 504 → w.hand.taken ≡ w.hand.len →
    eqb w.block.count 0 ≡ false → ltb block_limit (w.block.used + encoded_length v) ≡ true → Owes W E w page hand list p (v ∷ rest) →
    Owes W E (gave w (encoded_length v)) page (brings w p v) (list ++ ends_block w v) (v ∷ []) rest
unfolding every starts entries_from
gives_new W E w page hand list p v rest f t e g o =
    let size : ℕ = encoded_length v in
    let (lo, hi) = short_version v (and_left_of (in_limits v) (every in_limits rest) o.in_limits_all) in
    let at = owes_within W E w page hand list p (v ∷ rest) o in
    let head = length_head p v in
    let n = length_entry w.block.begin w.block.used in
    let u : 8 + size ≡ wrap (size + 8) = omega arith in
    let b : w.block.begin + w.block.used ≡ wrap (w.block.begin + w.block.used) = omega (arith, o.short) in
    let c : suc w.block.count ≡ wrap (w.block.count + 1) = omega (arith, o.few) in
    let l : w.positions.fill + length (entry w.block.begin w.block.used) ≡ wrap (w.positions.fill + 8) = omega arith in
    let owes = given_owes W E w page hand list p v rest (w.block.begin + w.block.used) (8 + size) (suc w.block.count) (bytes_of 8 (bound_of p v) ++ encoding v) (entry w.block.begin w.block.used) t o
    (rw e (stream_brings w.block.used p v rest g)) (rw (e, g) refl) (omega arith) (omega arith) (omega arith) (omega arith) (omega arith) (omega (arith, o.list_even)) (omega arith) in
    rw (e, g) (subst (λ x. Owes W E x page (bytes_of 8 (bound_of p v) ++ encoding v) (list ++ entry w.block.begin w.block.used) (v ∷ []) rest)
    (λ i. writer (b i) (u i) (c i) ((head ∙ u) i) 0 w.stream.fill w.stream.put (l i) w.positions.put) owes)

-- the block goes on
gives_same : (W E : List ℕ) (w : Writer) (page hand list : List ℕ) (p : List Version) (v : Version) (rest : List Version) → w.positions.fill < 504 → w.hand.taken ≡ w.hand.len →
    eqb w.block.count 0 ≡ false → ltb block_limit (w.block.used + encoded_length v) ≡ false → Owes W E w page hand list p (v ∷ rest) →
    Owes W E (gave w (encoded_length v)) page (brings w p v) (list ++ ends_block w v) (v ∷ []) rest
unfolding every starts entries_from
gives_same W E w page hand list p v rest f t e g o =
    let size : ℕ = encoded_length v in
    let (lo, hi) = short_version v (and_left_of (in_limits v) (every in_limits rest) o.in_limits_all) in
    let some = eqb-false w.block.count 0 e in
    let u : w.block.used + size ≡ wrap (w.block.used + size) = omega (arith, o.block_short) in
    let l : w.positions.fill + 0 ≡ w.positions.fill = omega arith in
    let fits = ltb-false block_limit (w.block.used + size) g in
    let len = length_encoding v in
    let owes = given_owes W E w page hand list p v rest w.block.begin (w.block.used + size) w.block.count (encoding v) [] t o
    (rw e (stream_goes_on w.block.used p v rest g)) (rw (e, g) refl) (omega arith) (omega arith) (omega arith) (omega arith) (omega arith) (omega arith) refl in
    rw (e, g) (subst (λ x. Owes W E x page (encoding v) (list ++ []) (v ∷ []) rest)
    (λ i. writer w.block.begin (u i) w.block.count (len i) 0 w.stream.fill w.stream.put (l i) w.positions.put) owes)

pub gives : WriterGives
gives W E w page hand list p v rest f t o = go (eqb w.block.count 0) refl (ltb block_limit (w.block.used + encoded_length v)) refl
  where
    go : (c : Bool) → eqb w.block.count 0 ≡ c → (d : Bool) → ltb block_limit (w.block.used + encoded_length v) ≡ d →
        Owes W E (gave w (encoded_length v)) page (brings w p v) (list ++ ends_block w v) (v ∷ []) rest
    go true e d g = gives_first W E w page hand list p v rest f t e o
    go false e true g = gives_new W E w page hand list p v rest f t e g o
    go false e false g = gives_same W E w page hand list p v rest f t e g o

pub puts : WriterPuts
puts W E w page hand list p rest o = ((λ f. puts_data W E w page hand list p rest f o), (λ f. puts_positions W E w page hand list p rest f o))

-- THE BEGINNING AND THE END
pub starts_owing : WriterBegins
starts_owing vs f n w e = record {
  on_page = refl;
  in_hand = refl;
  on_list = refl;
  page_holds = omega arith;
  list_holds = omega arith;
  list_even = refl;
  hand_short = omega arith;
  taken_part = omega arith;
  stream = refl;
  entries = refl;
  stream_within = omega arith;
  entries_within = omega arith;
  given = refl;
  fresh = λ _. refl;
  block_short = omega arith;
  in_limits_all = f;
  few = omega arith;
  short = w;
  list_short = e;
}

-- what is left of a stream is on the page
rest_page : (bs page : List ℕ) (n : ℕ) → drop (504 * n) bs ≡ page → page_of bs n ≡ sealed page
unfolding page_of
rest_page bs page n e = ap sealed e

pub ends : WriterEnds
unfolding stream_from entries_from
ends W E w page hand list p t o =
    let none : drop w.hand.taken hand ≡ [] = hand_empty hand w.hand.taken w.hand.len t o.in_hand in
    let left : drop (504 * w.stream.put) W ≡ page = o.stream ∙ ap (λ x. page ++ (x ++ [])) none ∙ append-nil page in (
      rest_page W page w.stream.put left,
      omega (arith, ap length left, o.on_page, o.stream_within, length-drop (504 * w.stream.put) W),
      λ c.
          let z = ne_eqb w.block.count 0 (omega arith) in
          let listed : drop (504 * w.positions.put) E ≡ list ++ entry w.block.begin w.block.used = rw z at o.entries in (
            rest_page E (list ++ entry w.block.begin w.block.used) w.positions.put listed,
            omega (arith, ap length listed, o.on_list, o.entries_within, length-drop (504 * w.positions.put) E, length-append list (entry w.block.begin w.block.used), length_entry w.block.begin w.block.used),
          ),
    )
