-- A cursor walks over a table's versions in order, and each page that it waits for is the table's next.
use Rattle.std.proofs.Common.{◌≡◌, ℕ, suc, ◌+◌, ◌*◌, ◌/◌, ◌%◌, ◌<◌, ◌≤◌, min, ltb, leb, List, [], ◌∷◌, ◌++◌, length, get_or, take, drop, Some, sym, refl, ap, ◌∙◌, subst, ⊎_elim, append_assoc, arith, ltb-false, ltb-true, le-leb, leb-false, leb-true}
use borrow.Author.Tests.{lt-leb}
use Rattle.std.proofs.lemmas.List.{take_at}
use Rattle.std.proofs.lemmas.Bool.{cases_lt}
use Rattle.value.specs.Versions.{every, Version, added_up}
use Rattle.value.specs.Numbers.{part}
use Rattle.value.specs.Encoding.{encoding, encoded_length, encode_all, in_limits, parsed, version_at, end_of, place_of}
use Rattle.value.specs.Sorted.{sort}
use Rattle.value.proofs.TestLaws.{and_left_of}
use Rattle.value.proofs.EncodingLaws.{parse_reads_encode}
use Rattle.value.proofs.SortLaws.{sort_every}
use Rattle.table.specs.Device.{Page, page_at}
use Rattle.table.specs.Layout.{blocks, block_bytes, versions_length, entry, table_stream, table_entries}
use Rattle.table.specs.Sizes.{joined, block_length, page_count}
use Rattle.table.specs.Stream.{payload, payloads}
use Rattle.table.specs.Lies.{before_block}
use Rattle.table.specs.Lookup.{entry_of, There}
use Rattle.table.specs.Cursor.{a_cursor, new_cursor, listed_entry, wanted, took_positions, list_with, took_data, ring_with, ringed, advanced, OfBytes, AtVersion, Came, Walking, Heads, CursorRight}
use Rattle.table.specs.declared.lookup.Extent.{Extent}
use Rattle.table.specs.declared.lookup.Entry.{Entry}
use Rattle.table.specs.declared.cursor.Cursor.{Cursor}
use Rattle.table.specs.declared.cursor.Want.TheVariants.{Positions, Data, Head, End}
use Rattle.table.proofs.BlockLaws.{every_back}
use Rattle.table.proofs.SizeLaws.{blocks_hold, table_fits, added_append}
use Rattle.table.proofs.StreamLaws.{length_payload}
use Rattle.table.proofs.LoadLaws.{one_payload}
use Rattle.table.proofs.LieLaws.{block_there, entry_read}
use Rattle.table.proofs.BlockAtLaws.{BlockAt, block_at}
use Rattle.table.proofs.RingLaws.{length_placed, placed_here, placed_else, ring_reads}
use Rattle.table.proofs.WalkLaws.{waits_positions, waits_data, waits_head, waits_end, joined_drop, joined_past, begin_next, block_parts, listed_reads, list_holds}

cursor_ends : (x : Extent) (ps : List Page) (vs : List Version) (c : Cursor) (ring list : List ℕ) (rest : List Version) → Walking x ps vs c ring list rest → wanted c x list ≡ End → rest ≡ []
cursor_ends x ps vs c ring list rest o e =
    let over = waits_end (leb x.blocks c.block) (leb c.listed (c.block / 63)) _ _ _ e in
    o.over (omega (arith, leb-true x.blocks c.block over, o.within))

-- A WALK over a table that lies there
module _ (x : Extent) (ps : List Page) (vs : List Version) (t : There x ps vs) where
  at_block : (i : ℕ) → i < x.blocks → BlockAt (sort vs) i
  at_block i h = block_at (sort vs) i (sort_every in_limits vs ∙ t.lies.fits) (omega (arith, t.lies.count))

  entries_long : length (table_entries (sort vs)) ≡ 8 * length (blocks (sort vs))
  entries_long = (table_fits (sort vs) (sort_every in_limits vs ∙ t.lies.fits)).0

  -- to a block's first version
  enters : (c : Cursor) (ring list : List ℕ) → length ring ≡ 2016 → length list ≡ 504 → c.block ≤ x.blocks → c.at ≡ 8 → (c.block < x.blocks → Came x ps vs c.block c.listed c.read ring list) →
      Walking x ps vs c ring list (joined (drop c.block (blocks (sort vs))))
  unfolding added_up
  enters c ring list r l w a came = record {
    ring_long = r;
    list_long = l;
    within = w;
    over = λ e. joined_past (blocks (sort vs)) c.block (omega (arith, t.lies.count));
    on = λ h.
        let b = at_block c.block h in
        record {
          passed = [];
          head = b.head;
          more = b.tail;
          block_is = b.is;
          at_is = a;
          rest_is = joined_drop (blocks (sort vs)) c.block (omega (arith, t.lies.count)) ∙ ap (λ y. y ++ joined (drop (suc c.block) (blocks (sort vs)))) b.is;
        };
    came = came;
  }

  pub cursor_opens : (ring list : List ℕ) → length ring ≡ 2016 → length list ≡ 504 → Walking x ps vs new_cursor ring list (sort vs)
  unfolding added_up
  cursor_opens ring list r l =
      subst (Walking x ps vs new_cursor ring list) (blocks_hold (sort vs)).0
      (enters new_cursor ring list r l (omega arith) refl
      (λ h. record {
        listed_from = omega arith;
        listed_to = omega arith;
        in_list = λ e. absurd (omega arith);
        read_from = omega arith;
        read_to = omega arith;
        in_ring = λ q f g. absurd (omega arith);
      }))

  module _ (c : Cursor) (ring list : List ℕ) (rest : List Version) (o : Walking x ps vs c ring list rest) where
    pub cursor_lists : (k : ℕ) → wanted c x list ≡ Positions k →
        (k ≡ x.start + c.listed) × (c.listed < page_count (length (table_entries (sort vs)))) × Walking x ps vs (took_positions c) ring (list_with (page_at ps k) list) rest
    cursor_lists k e =
        let (a, b, m) = waits_positions (leb x.blocks c.block) (leb c.listed (c.block / 63)) _ _ _ k e in
        let h : c.block < x.blocks = leb-false x.blocks c.block a in
        let u = leb-true c.listed (c.block / 63) b in
        let w = o.came h in
        let page : k ≡ x.start + c.listed = omega (arith, m, t.start_small, t.few) in
        let is : list_with (page_at ps k) list ≡ payload (page_at ps k) = list_holds (page_at ps k) list o.list_long in
        let at : k ≡ x.start + c.block / 63 = omega (arith, w.listed_from) in
        let next : (c.listed + 1) % 18446744073709551616 ≡ c.listed + 1 = omega (arith, t.few) in (
          page,
          omega (arith, entries_long, t.lies.count),
          record {
            ring_long = o.ring_long;
            list_long = ap length is ∙ length_payload (page_at ps k);
            within = o.within;
            over = o.over;
            on = o.on;
            came = λ g. record {
              listed_from = omega (arith, w.listed_from);
              listed_to = omega arith;
              in_list = λ z. is ∙ ap (λ j. payload (page_at ps j)) at;
              read_from = w.read_from;
              read_to = w.read_to;
              in_ring = w.in_ring;
            };
          },
        )

    -- once its page of positions came, a block's entry is there
    entry_there : (h : c.block < x.blocks) → c.block / 63 < c.listed → listed_entry c list ≡ entry_of vs c.block
    entry_there h u =
        let i : ℕ = c.block in
        let w = o.came h in
        let b = at_block i h in
        let page : x.start + 8 * i / 504 ≡ x.start + i / 63 = omega arith in
        let at : 8 * i % 504 ≡ 8 * (i % 63) = omega arith in
        let is : payloads ps (x.start + 8 * i / 504) 1 ≡ list = ap (λ j. payloads ps j 1) page ∙ one_payload ps (x.start + i / 63) ∙ sym (w.in_list (omega (arith, w.listed_to))) in
        let there : part (8 * (i % 63)) 8 list ≡ entry (entry_of vs i).begin (entry_of vs i).len =
        sym (λ j. part (at j) 8 (is j)) ∙ entry_read x.start x.data_at x.blocks ps vs i t.lies h in
        listed_reads list (8 * (i % 63)) (entry_of vs i).begin (entry_of vs i).len there (omega (arith, b.ends, t.short)) (omega (arith, b.ends, t.short))

    pub cursor_reads : (k : ℕ) → wanted c x list ≡ Data k →
        (k ≡ x.data_at + c.read) × (c.read < page_count (length (table_stream (sort vs)))) × Walking x ps vs (took_data c) (ring_with c (page_at ps k) ring) list rest
    cursor_reads k e =
        let (a, b, d, m) = waits_data (leb x.blocks c.block) (leb c.listed (c.block / 63)) (ltb c.read (page_count ((listed_entry c list).begin + (listed_entry c list).len))) _ _ k e in
        let h : c.block < x.blocks = leb-false x.blocks c.block a in
        let w = o.came h in
        let y = at_block c.block h in
        let entry_is = entry_there h (leb-false c.listed (c.block / 63) b) in
        let unread : c.read < page_count ((entry_of vs c.block).begin + (entry_of vs c.block).len) =
        subst (λ (z : Entry). c.read < page_count (z.begin + z.len)) entry_is (ltb-true c.read (page_count ((listed_entry c list).begin + (listed_entry c list).len)) d) in
        let page : k ≡ x.data_at + c.read = omega (arith, m, t.data_small, y.ends, t.short) in
        let next : (c.read + 1) % 18446744073709551616 ≡ c.read + 1 = omega (arith, y.ends, t.short) in (
          page,
          omega (arith, y.ends),
          record {
            ring_long = length_placed (c.read % 4) (page_at ps k) ring (omega arith) o.ring_long;
            list_long = o.list_long;
            within = o.within;
            over = o.over;
            on = o.on;
            came = λ g. record {
              listed_from = w.listed_from;
              listed_to = w.listed_to;
              in_list = w.in_list;
              read_from = omega (arith, w.read_from);
              read_to = omega arith;
              in_ring = λ q f l. in_ring k w page y.short unread q f (omega arith);
            };
          },
        )
      where
        in_ring : (k : ℕ) → Came x ps vs c.block c.listed c.read ring list → k ≡ x.data_at + c.read → (entry_of vs c.block).len ≤ 1512 →
            c.read < page_count ((entry_of vs c.block).begin + (entry_of vs c.block).len) →
            (q : ℕ) → (entry_of vs c.block).begin / 504 ≤ q → q < c.read + 1 → part (504 * (q % 4)) 504 (ring_with c (page_at ps k) ring) ≡ payload (page_at ps (x.data_at + q))
        in_ring k w page short unread q f l =
            ⊎_elim
            (λ g. let other : q % 4 ≡ c.read % 4 → ⊥ = λ z. omega arith in placed_else (c.read % 4) (page_at ps k) ring (omega arith) o.ring_long (q % 4) other ∙ w.in_ring q f g)
            (λ g.
            let same : q ≡ c.read = omega arith in
            let at : k ≡ x.data_at + q = omega arith in
            ap (λ j. part (504 * (j % 4)) 504 (ring_with c (page_at ps k) ring)) same ∙ placed_here (c.read % 4) (page_at ps k) ring (omega arith) o.ring_long ∙ ap (λ j. payload (page_at ps j)) at)
            (cases_lt q c.read)

    -- once its pages of data came, a block's bytes are there
    block_came : OfBytes ps → (h : c.block < x.blocks) → page_count ((entry_of vs c.block).begin + (entry_of vs c.block).len) ≤ c.read →
        ringed (entry_of vs c.block).begin (entry_of vs c.block).len ring ≡ block_bytes (before_block (blocks (sort vs)) c.block) (get_or (blocks (sort vs)) c.block [])
    block_came bytes h r =
        let i : ℕ = c.block in
        let b = at_block i h in
        let begin : ℕ = (entry_of vs i).begin in
        let len : ℕ = (entry_of vs i).len in
        let B = block_bytes (before_block (blocks (sort vs)) i) (get_or (blocks (sort vs)) i []) in
        let ((more, s), g, y) = block_there (sort vs) i (omega (arith, t.lies.count)) in
        ring_reads ps x.data_at (table_stream (sort vs)) ring begin len bytes t.lies.stream b.ends (λ q f l. (o.came h).in_ring q f (omega arith))
        ∙ ap (take len) s ∙ take_at B more len b.long

    -- once all that is wanted of a block came, the next one's pages that came are there
    next_came : (h : c.block < x.blocks) → c.block / 63 < c.listed → page_count ((entry_of vs c.block).begin + (entry_of vs c.block).len) ≤ c.read →
        Came x ps vs (suc c.block) c.listed c.read ring list
    next_came h u r =
        let w = o.came h in
        let begins : (entry_of vs (suc c.block)).begin ≡ (entry_of vs c.block).begin + (entry_of vs c.block).len = begin_next (blocks (sort vs)) c.block (omega (arith, t.lies.count)) in
        record {
          listed_from = omega (arith, w.listed_to);
          listed_to = omega (arith, w.listed_to);
          in_list = λ e.
              let same : suc c.block / 63 ≡ c.block / 63 = omega (arith, w.listed_to) in
              w.in_list (omega (arith, w.listed_to)) ∙ ap (λ j. payload (page_at ps (x.start + j))) (sym same);
          read_from = omega arith;
          read_to = omega (arith, w.read_to);
          in_ring = λ q f l. w.in_ring q (omega arith) l;
        }

    -- behind a version: another of its block, or the next block
    advances : (h : c.block < x.blocks) → c.block / 63 < c.listed → page_count ((entry_of vs c.block).begin + (entry_of vs c.block).len) ≤ c.read → (v : AtVersion vs c.block c.at rest) →
        Walking x ps vs (advanced c (entry_of vs c.block) (place_of c.at v.head)) ring list (v.more ++ joined (drop (suc c.block) (blocks (sort vs))))
    unfolding added_up
    advances h u r v = go v.more refl
      where
        len_is : (ws : List Version) → v.more ≡ ws → (entry_of vs c.block).len ≡ c.at + (encoded_length v.head + versions_length ws)
        len_is ws e = ap block_length (v.block_is ∙ ap (λ y. v.passed ++ v.head ∷ y) e) ∙ omega (arith, added_append encoded_length v.passed (v.head ∷ ws), v.at_is)

        go : (ws : List Version) → v.more ≡ ws → Walking x ps vs (advanced c (entry_of vs c.block) (place_of c.at v.head)) ring list (ws ++ joined (drop (suc c.block) (blocks (sort vs))))
        go [] e =
            let b = at_block c.block h in
            let n = len_is [] e in
            let next : (c.block + 1) % 18446744073709551616 ≡ suc c.block = omega (arith, t.few) in
            rw (le-leb (entry_of vs c.block).len (min (end_of (place_of c.at v.head)) 18446744073709551615) (omega (arith, b.short)))
            (subst (λ i. Walking x ps vs (a_cursor i 8 c.listed c.read) ring list (joined (drop (suc c.block) (blocks (sort vs))))) (sym next)
            (enters (a_cursor (suc c.block) 8 c.listed c.read) ring list o.ring_long o.list_long (omega arith) refl (λ g. next_came h u r)))
        go (w ∷ ws) e =
            let b = at_block c.block h in
            let n = len_is (w ∷ ws) e in
            rw (lt-leb (entry_of vs c.block).len (min (end_of (place_of c.at v.head)) 18446744073709551615) (omega (arith, b.short)))
            (record {
              ring_long = o.ring_long;
              list_long = o.list_long;
              within = o.within;
              over = λ z. absurd (omega arith);
              on = λ g. record {
                passed = v.passed ++ v.head ∷ [];
                head = w;
                more = ws;
                block_is = v.block_is ∙ ap (λ y. v.passed ++ v.head ∷ y) e ∙ sym (append_assoc v.passed (v.head ∷ []) (w ∷ ws));
                at_is = omega (arith, added_append encoded_length v.passed (v.head ∷ []), v.at_is, b.short);
                rest_is = refl;
              };
              came = o.came;
            })

    heads_at : OfBytes ps → (h : c.block < x.blocks) → c.block / 63 < c.listed → page_count ((entry_of vs c.block).begin + (entry_of vs c.block).len) ≤ c.read → Heads x ps vs c ring list rest (entry_of vs c.block)
    unfolding every
    heads_at bytes h u r =
        let b = at_block c.block h in
        let v = o.on h in
        let p = before_block (blocks (sort vs)) c.block in
        let (xs, is, n) = block_parts p v.passed v.head v.more in
        let ys = xs ++ (encoding v.head ++ encode_all v.more) in
        let row_is : ringed (entry_of vs c.block).begin (entry_of vs c.block).len ring ≡ ys = block_came bytes h r ∙ ap (block_bytes p) v.block_is ∙ is in
        let at : length xs ≡ c.at = n ∙ sym v.at_is in
        let fits = every_back in_limits v.passed (v.head ∷ v.more) (ap (every in_limits) (sym v.block_is ∙ b.is) ∙ b.fits) in
        let (found, version) = parse_reads_encode xs v.head (encode_all v.more) (and_left_of (in_limits v.head) (every in_limits v.more) fits) in
        record {
          version = v.head;
          others = v.more ++ joined (drop (suc c.block) (blocks (sort vs)));
          place = place_of c.at v.head;
          first = v.rest_is;
          short = b.short;
          found = ap (λ z. parsed z c.at) row_is ∙ subst (λ k. parsed ys k ≡ Some (place_of k v.head)) at found;
          is = ap (λ z. version_at z (place_of c.at v.head)) row_is ∙ subst (λ k. version_at ys (place_of k v.head) ≡ v.head) at version;
          behind = advances h u r v;
        }

    pub cursor_heads : OfBytes ps → wanted c x list ≡ Head → Heads x ps vs c ring list rest (listed_entry c list)
    cursor_heads bytes e =
        let (a, b, d) = waits_head (leb x.blocks c.block) (leb c.listed (c.block / 63)) (ltb c.read (page_count ((listed_entry c list).begin + (listed_entry c list).len))) _ _ e in
        let h = leb-false x.blocks c.block a in
        let u = leb-false c.listed (c.block / 63) b in
        let entry_is = entry_there h u in
        let r = subst (λ (z : Entry). page_count (z.begin + z.len) ≤ c.read) entry_is (ltb-false c.read (page_count ((listed_entry c list).begin + (listed_entry c list).len)) d) in
        subst (Heads x ps vs c ring list rest) (sym entry_is) (heads_at bytes h u r)

    pub cursor_elsewhere : (qs : List Page) → ((i : ℕ) → i < page_count (length (table_entries (sort vs))) → page_at qs (x.start + i) ≡ page_at ps (x.start + i)) →
        ((i : ℕ) → i < page_count (length (table_stream (sort vs))) → page_at qs (x.data_at + i) ≡ page_at ps (x.data_at + i)) → Walking x qs vs c ring list rest
    cursor_elsewhere qs ListSame data_same = record {
      ring_long = o.ring_long;
      list_long = o.list_long;
      within = o.within;
      over = o.over;
      on = o.on;
      came = λ h.
          let w = o.came h in
          let b = at_block c.block h in
          let few : c.block / 63 < page_count (length (table_entries (sort vs))) = omega (arith, entries_long, t.lies.count) in
          record {
            listed_from = w.listed_from;
            listed_to = w.listed_to;
            in_list = λ e. w.in_list e ∙ ap payload (sym (ListSame (c.block / 63) few));
            read_from = w.read_from;
            read_to = w.read_to;
            in_ring = λ q f l. w.in_ring q f l ∙ ap payload (sym (data_same q (omega (arith, w.read_to, b.ends))));
          };
    }

pub cursor_right : CursorRight
cursor_right = record {
  opens = λ x ps vs ring list t. cursor_opens x ps vs t ring list;
  positions = λ x ps vs c ring list rest k t o. cursor_lists x ps vs t c ring list rest o k;
  «data» = λ x ps vs c ring list rest k t o. cursor_reads x ps vs t c ring list rest o k;
  head = λ x ps vs c ring list rest t bytes o. cursor_heads x ps vs t c ring list rest o bytes;
  end = cursor_ends;
  elsewhere = λ x ps qs vs c ring list rest t a b o. cursor_elsewhere x ps vs t c ring list rest o qs a b;
}
