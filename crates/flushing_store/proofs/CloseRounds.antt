-- The round in which nothing is left to be handed over: the last block's entry is listed, and the last pages are those of the new table.
use Rattle.std.proofs.Common.{◌≡◌, ℕ, suc, ◌+◌, ◌*◌, ◌<◌, ◌≤◌, min, Bool, true, false, ltb, List, [], ◌∷◌, ◌++◌, length, drop, sym, refl, ap, ◌∙◌, subst, arith, length-append, ltb-false, ltb-true, eq-eqb, ne_eqb}
use Rattle.std.proofs.lemmas.List.{drop_all, length-drop}
use Rattle.value.specs.Versions.{Version}
use Rattle.value.specs.Sorted.{sort, merge}
use Rattle.value.proofs.SortLaws.{sort_weighs}
use Rattle.value.proofs.MergeLaws.{merge_nil}
use Rattle.memtable.specs.Holds.{Holds}
use Rattle.table.specs.Layout.{entry, blocks, table_entries}
use Rattle.table.specs.Sizes.{joined, page_count}
use Rattle.table.specs.Stream.{sealed, page_of}
use Rattle.table.specs.Row.{octets}
use Rattle.table.specs.Writing.{wrap, writer, closed, put_data, put_positions, entries_left, Owes}
use Rattle.table.specs.declared.writer.Writer.{Writer}
use Rattle.table.proofs.StreamLaws.{sealed_page_is}
use Rattle.table.proofs.RowLaws.{length_octets}
use Rattle.table.proofs.SizeLaws.{blocks_hold}
use Rattle.table.proofs.WritingLaws.{ends}
use Rattle.store.specs.House.{House}
use Rattle.flushing_store.specs.Control.{base, merging, control, to_phase, data_of, hand_of, entries_of}
use Rattle.store.specs.Regions.{index_of, arena_of}
use Rattle.flushing_store.specs.Give.{ended_block}
use Rattle.flushing_store.specs.Round.{with_writer, data_turn, positions_turn, last_turn, closed_turn}
use Rattle.flushing_store.specs.declared.control.Phase.{Phase}
use Rattle.flushing_store.specs.declared.control.Phase.TheVariants.{Closed, Placed}
use Rattle.flushing_store.specs.declared.control.Merging.{Merging}
use Rattle.flushing_store.specs.declared.control.Control.{Control}
use Rattle.memtable.proofs.AnswerLaws.{sizes_suffice}
use Rattle.flushing_store.proofs.RegionLaws.{SmallCursor, SmallWriter}
use Rattle.flushing_store.proofs.FlushAccount.{Job, new_stream, new_entries, start_page, data_page, KeepsMemory}
use Rattle.flushing_store.proofs.WorkLaws.{entries_long}
use Rattle.flushing_store.proofs.RoundAccount.{all_fit, start_is, data_is, start_small, half_room, At, Over, Rounded, closes_data, closes_positions}
use Rattle.flushing_store.proofs.HandLaws.{ended_long, ended_below, ended_there}
use Rattle.flushing_store.proofs.PageRounds.{small_data, small_positions}
use Rattle.flushing_store.proofs.BytesLaws.{octets_of_bytes}

-- where there are versions there are blocks
blocks_some : (vs : List Version) → 0 < length vs → 0 < length (blocks (sort vs))
unfolding joined
blocks_some vs x = go (blocks (sort vs)) (blocks_hold (sort vs)).0
  where
    go : (bs : List (List Version)) → joined bs ≡ sort vs → 0 < length bs
    go [] e = absurd (omega (arith, ap length e, (sort_weighs vs).1))
    go (b ∷ bs) e = omega arith

module _ (n pages : ℕ) (h : House) (j : Job n pages h) (k : Control) (m : List ℕ) (o : At n pages h j k m)
    (calm : k.merging.waiting < 254) (open_page : k.merging.writer.stream.fill < 504) (room : k.merging.writer.positions.fill < 504) (all_taken : k.merging.writer.hand.taken ≡ k.merging.writer.hand.len)
    (no_table : o.merges.table_rest ≡ []) (no_memory : length j.fresh ≤ k.merging.walked) where
  abbrev w : Writer
  w = k.merging.writer

  nothing_left : merge (drop k.merging.walked (sort j.fresh)) o.merges.table_rest ≡ []
  nothing_left =
      (λ i. merge (drop_all k.merging.walked (sort j.fresh) (omega (arith, (sort_weighs j.fresh).1, no_memory)) i) (no_table i)) ∙ merge_nil []

  owes : Owes (new_stream n pages h j) (new_entries n pages h j) w (octets w.stream.fill (data_of m)) (octets w.hand.len (hand_of m)) (octets w.positions.fill (entries_of m)) o.merges.given []
  owes =
      subst (λ r. Owes (new_stream n pages h j) (new_entries n pages h j) w (octets w.stream.fill (data_of m)) (octets w.hand.len (hand_of m)) (octets w.positions.fill (entries_of m)) o.merges.given r)
      nothing_left o.merges.owes

  some_versions : 0 < length h.versions
  some_versions = omega (arith, j.some, ap length j.all_is, length-append h.safe j.fresh)

  listed_all : length (new_entries n pages h j) ≡ 8 * length (blocks (sort h.versions))
  listed_all = entries_long pages h.versions j.stored.many j.room (all_fit n pages h j)

  no_entries : w.block.count ≡ 0 → entries_left w [] ≡ []
  unfolding table_entries
  no_entries e = rw (eq-eqb w.block.count 0 e) refl

  some_blocks : w.block.count ≡ 0 → ⊥
  some_blocks e =
      let list = octets w.positions.fill (entries_of m) in
      let q : length (drop (504 * w.positions.put) (new_entries n pages h j)) ≡ length (octets w.positions.fill (entries_of m)) + 0 =
      ap length (owes.entries ∙ ap (λ y. octets w.positions.fill (entries_of m) ++ y) (no_entries e)) ∙ length-append (octets w.positions.fill (entries_of m)) [] in
      omega (arith, q, length-drop (504 * w.positions.put) (new_entries n pages h j), length_octets w.positions.fill (entries_of m), o.merges.listed, listed_all, blocks_some h.versions some_versions, e)

  abbrev w₁ : Writer
  w₁ = writer w.block.begin w.block.used w.block.count w.hand.len w.hand.taken w.stream.fill w.stream.put (wrap (w.positions.fill + 8)) w.positions.put

  closed_is : closed w ≡ w₁
  closed_is = rw (ne_eqb w.block.count 0 some_blocks) refl

  even : w.positions.fill + 8 ≤ 504
  even = omega (arith, room, o.merges.owes.list_even)

  fill_is : wrap (w.positions.fill + 8) ≡ w.positions.fill + 8
  fill_is = omega (arith, even)

  small : SmallWriter w₁
  small = let s = o.merges.small_writer in record { begin = s.begin; used = s.used; count = s.count; len = s.len; taken = s.taken; fill = s.fill; put = s.put; listed = omega arith; lists = s.lists }

  abbrev m₁ : List ℕ
  m₁ = ended_block w m

  -- the last pages
  stream_ends : (page_of (new_stream n pages h j) w.stream.put ≡ sealed (octets w.stream.fill (data_of m))) × (length (new_stream n pages h j) ≡ 504 * w.stream.put + w.stream.fill)
  stream_ends = let e = ends (new_stream n pages h j) (new_entries n pages h j) w _ _ _ _ all_taken owes in (e.0, e.1)

  entries_end : (page_of (new_entries n pages h j) w.positions.put ≡ sealed (octets w.positions.fill (entries_of m) ++ entry w.block.begin w.block.used))
      × (length (new_entries n pages h j) ≡ 504 * w.positions.put + (w.positions.fill + 8))
  entries_end = (ends (new_stream n pages h j) (new_entries n pages h j) w _ _ _ _ all_taken owes).2 (let z : w.block.count ≡ 0 → ⊥ = some_blocks in omega (arith, z))

  counted : w.block.count ≡ length (blocks (sort h.versions))
  counted = let z : w.block.count ≡ 0 → ⊥ = some_blocks in omega (arith, z, entries_end.1, listed_all, o.merges.listed)

  last_list : suc w.positions.put ≡ page_count (length (new_entries n pages h j))
  last_list = omega (arith, entries_end.1, even)

  last_entries : octets (wrap (w.positions.fill + 8)) (entries_of m₁) ≡ octets w.positions.fill (entries_of m) ++ entry w.block.begin w.block.used
  last_entries = ap (λ i. octets i (entries_of m₁)) fill_is ∙ ended_there w m o.keeps.long (ne_eqb w.block.count 0 some_blocks) even

  -- memory and control in the phase that follows
  keeps : (p : Phase) (g : Merging) → KeepsMemory n pages h j p (control (base p k.base.pages k.base.last k.base.table) k.manifest k.lookup g) m₁
  keeps p g = record {
    long = ended_long w m o.keeps.long;
    base_is = λ i. base p (o.keeps.base_is i).pages (o.keeps.base_is i).last (o.keeps.base_is i).table;
    manifest_is = o.keeps.manifest_is;
    holds = subst (λ x. Holds x (arena_of m₁) j.table j.fresh) (sym (ended_below w m o.keeps.long 64 16384 (omega arith)))
        (subst (λ x. Holds (index_of m) x j.table j.fresh) (sym (ended_below w m o.keeps.long 16448 131072 (omega arith))) o.keeps.holds);
  }

  over : (g : Merging) → g.cursor ≡ k.merging.cursor → g.walked ≡ k.merging.walked → g.writer.block.count ≡ w.block.count → g.writer.stream.put ≡ page_count (length (new_stream n pages h j)) → SmallWriter g.writer →
      g.waiting < 18446744073709551616 → Over n pages h j g
  over g c a b d s x = record {
    counted = b ∙ counted;
    datas = d;
    small_cursor = subst SmallCursor (sym c) o.merges.small_cursor;
    small_writer = s;
    small_walked = omega (arith, a, o.merges.walked, (sizes_suffice j.fresh o.keeps.holds.fit o.keeps.holds.light).0);
    small_waiting = x;
  }

  -- the last page of data is put
  close_data : 0 < w.stream.fill → Rounded n pages h j k m (data_turn (to_phase (with_writer k w₁) Closed)) m₁
  close_data x =
      let put : ℕ = w.stream.put in
      let cut : min w.stream.fill 504 ≡ w.stream.fill = omega arith in
      let e : wrap (put + 1) ≡ suc put = omega (arith, o.merges.owes.short, o.merges.owes.stream_within) in
      let last : wrap (put + 1) ≡ page_count (length (new_stream n pages h j)) = omega (arith, e, stream_ends.1) in
      let g : Merging = merging k.merging.cursor (put_data w₁) k.merging.walked (wrap (k.merging.waiting + 1)) in
      let number : wrap (data_page n pages h j + put) ≡ data_page n pages h j + put = omega (arith, start_small n pages h j, half_room n pages h j, o.merges.owes.short, o.merges.owes.stream_within) in
      closes_data _ m₁ _ (keeps Closed g)
      record {
        number = omega (arith, stream_ends.1);
        is = stream_ends.0 ∙ (λ i. sealed (octets (sym cut i) (sym (ended_below w m o.keeps.long 151512 504 (omega arith)) i)));
        page = (sealed_page_is (octets (min w.stream.fill 504) (data_of m₁)) (octets_of_bytes (min w.stream.fill 504) (data_of m₁))).0;
      }
      (ap (λ i. wrap (i + put)) (data_is n pages h j Closed (to_phase (with_writer k w₁) Closed) m₁ (keeps Closed (merging k.merging.cursor w₁ k.merging.walked k.merging.waiting))) ∙ number)
      (over g refl refl refl last (small_data w₁ small) (omega arith)) e refl
      record {
        number = last_list;
        filled = omega (arith, fill_is, even);
        is = entries_end.0 ∙ ap sealed (sym last_entries);
        of_bytes = octets_of_bytes (wrap (w.positions.fill + 8)) (entries_of m₁);
      }

  -- or it is empty, and the last page of positions is put
  close_positions : w.stream.fill ≡ 0 → Rounded n pages h j k m (positions_turn (to_phase (with_writer k w₁) Placed)) m₁
  close_positions x =
      let put : ℕ = w.positions.put in
      let f : ℕ = wrap (w.positions.fill + 8) in
      let cut : min (wrap (w.positions.fill + 8)) 504 ≡ wrap (w.positions.fill + 8) = omega (arith, fill_is, even) in
      let g : Merging = merging k.merging.cursor (put_positions w₁) k.merging.walked (wrap (k.merging.waiting + 1)) in
      let number : wrap (start_page n pages h j + put) ≡ start_page n pages h j + put = omega (arith, start_small n pages h j, o.merges.owes.list_short, o.merges.owes.entries_within) in
      let last : w.stream.put ≡ page_count (length (new_stream n pages h j)) = omega (arith, stream_ends.1) in
      closes_positions _ m₁ _ (wrap (w.positions.fill + 8)) (keeps Placed g) last_list
      (entries_end.0 ∙ ap sealed (sym last_entries) ∙ ap (λ i. sealed (octets i (entries_of m₁))) (sym cut))
      (sealed_page_is (octets (min (wrap (w.positions.fill + 8)) 504) (entries_of m₁)) (octets_of_bytes (min (wrap (w.positions.fill + 8)) 504) (entries_of m₁))).0
      (ap (λ i. wrap (i + put)) (start_is n pages h j Placed (to_phase (with_writer k w₁) Placed) m₁ (keeps Placed (merging k.merging.cursor w₁ k.merging.walked k.merging.waiting))) ∙ number)
      (over g refl refl refl last (small_positions w₁ small) (omega arith)) refl

  pub close_round : Rounded n pages h j k m (closed_turn k m).turn (closed_turn k m).memory
  unfolding closed_turn
  close_round = subst (λ x. Rounded n pages h j k m (last_turn (ltb 0 w.stream.fill) (with_writer k x)) m₁) (sym closed_is) (go (ltb 0 w.stream.fill) refl)
    where
      go : (b : Bool) → ltb 0 w.stream.fill ≡ b → Rounded n pages h j k m (last_turn b (with_writer k w₁)) m₁
      go true e = close_data (ltb-true 0 w.stream.fill e)
      go false e = close_positions (omega (arith, ltb-false 0 w.stream.fill e))
