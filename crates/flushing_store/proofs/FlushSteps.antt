-- A step of a merge: rounds till something is to be done, that is done, and the control state is saved.
use Rattle.std.proofs.Common.{◌≡◌, ℕ, suc, ◌+◌, ◌-◌, ◌*◌, ◌<◌, ◌≤◌, min, Bool, true, false, ltb, leb, List, [], length, drop, sym, refl, ap, ◌∙◌, subst, inl, inr, arith, lt-ltb, le-leb}
use Rattle.value.specs.Versions.{pick}
use Rattle.value.specs.Numbers.{all_bytes}
use Rattle.value.specs.Sorted.{sort, merge}
use Rattle.memtable.specs.Holds.{Holds}
use Rattle.memtable.proofs.AnswerLaws.{sizes_suffice}
use Rattle.table.specs.Device.{Device, Page, page_at, read_page, flushed}
use Rattle.table.specs.Layout.{table_stream, table_entries}
use Rattle.table.specs.Sizes.{page_count}
use Rattle.table.specs.Stream.{sealed, page_of}
use Rattle.table.specs.Row.{octets}
use Rattle.table.specs.Writing.{Owes}
use Rattle.table.specs.Cursor.{Walking, wanted}
use Rattle.table.proofs.CursorLaws.{cursor_right}
use Rattle.manifest.specs.Manifest.{Fits}
use Rattle.manifest.specs.Places.{other, InHalf}
use Rattle.store.specs.House.{House, flush, core}
use Rattle.store.specs.Promise.{Event, page, next, world, queued}
use Rattle.store.specs.Account.{Next, Ends}
use Rattle.flushing_store.specs.Control.{memory_words, control_of, put_control, stage_region, ring_of, list_of, hand_of, data_of, entries_of}
use Rattle.store.specs.Regions.{index_of, arena_of}
use Rattle.flushing_store.specs.Look.{extent_of}
use Rattle.flushing_store.specs.Flush.{performed, done_by, spun, merged_on}
use Rattle.flushing_store.specs.declared.control.Phase.{Phase}
use Rattle.flushing_store.specs.declared.control.Phase.TheVariants.{Merging as MergingPhase, Closed, Placed}
use Rattle.flushing_store.specs.declared.control.Merging.{Merging}
use Rattle.flushing_store.specs.declared.control.Control.{Control}
use Rattle.flushing_store.specs.declared.turn.Turn.{Turn}
use Rattle.flushing_store.proofs.RegionLaws.{length_put, region_put, SmallBase, base_put, manifest_put, merging_put}
use Rattle.flushing_store.proofs.HeldLaws.{small_base}
use Rattle.flushing_store.proofs.WholeAccount.{account}
use Rattle.flushing_store.proofs.FlushAccount.{Job, new_stream, new_entries, start_page, data_page, Working, Written, KeepsMemory, Merges, acts_left, Fetched, positions_came, data_came, Ended, LastPage, Flushes, going, fetched, closed, placed}
use Rattle.flushing_store.proofs.WorkLaws.{working_settled, working_put, working_read, written_settled, data_in_half, positions_in_half, in_half_there, written_data, written_positions}
use Rattle.flushing_store.proofs.RoundAccount.{all_fit, At, SameCounts, NextData, NextPositions, Over, Rounded, more, fetches, settles, puts_data, puts_positions, closes_data, closes_positions}
use Rattle.flushing_store.proofs.PageRounds.{staged_same}
use Rattle.flushing_store.proofs.SpinLaws.{Spun, comes_to, spun_comes}
use Rattle.std.specs.Prelude.{is_some}

module _ (n pages : ℕ) (h : House) (j : Job n pages h) where
  -- CONTROL IS SAVED, and is as it was
  pub saved_keeps : (p : Phase) (k : Control) (m : List ℕ) → KeepsMemory n pages h j p k m → KeepsMemory n pages h j p (control_of (put_control m k)) (put_control m k)
  saved_keeps p k m o = record {
    long = length_put m k o.long;
    base_is = base_put m k o.long (subst SmallBase (sym o.base_is) (small_base p pages h.last j.table (index_of m) (arena_of m) j.fresh j.stored.few j.early o.holds)) ∙ o.base_is;
    manifest_is = manifest_put m k o.long (subst Fits (sym o.manifest_is) j.fits_list) ∙ o.manifest_is;
    holds = subst (λ x. Holds x (arena_of (put_control m k)) j.table j.fresh) (sym (region_put m k o.long 64 16384 (omega arith)))
        (subst (λ x. Holds (index_of m) x j.table j.fresh) (sym (region_put m k o.long 16448 131072 (omega arith))) o.holds);
  }

  -- the regions of a merge, on a memory that has them as another
  pub merges_on : (g : Merging) (m m₁ : List ℕ) → stage_region m₁ ≡ stage_region m → ring_of m₁ ≡ ring_of m → list_of m₁ ≡ list_of m → hand_of m₁ ≡ hand_of m → data_of m₁ ≡ data_of m → entries_of m₁ ≡ entries_of m →
      Merges n pages h j g m → Merges n pages h j g m₁
  merges_on g m m₁ st ri li ha da en o = record {
    table_rest = o.table_rest;
    given = o.given;
    walking = subst (λ r. Walking (extent_of j.list) j.before h.safe g.cursor r (list_of m₁) o.table_rest) (sym ri)
        (subst (λ r. Walking (extent_of j.list) j.before h.safe g.cursor (ring_of m) r o.table_rest) (sym li) o.walking);
    table_fit = o.table_fit;
    walked = o.walked;
    owes = subst (λ x. Owes (new_stream n pages h j) (new_entries n pages h j) g.writer (octets g.writer.stream.fill x) (octets g.writer.hand.len (hand_of m₁)) (octets g.writer.positions.fill (entries_of m₁)) o.given
        (merge (drop g.walked (sort j.fresh)) o.table_rest)) (sym da)
        (subst (λ x. Owes (new_stream n pages h j) (new_entries n pages h j) g.writer (octets g.writer.stream.fill (data_of m)) (octets g.writer.hand.len x) (octets g.writer.positions.fill (entries_of m₁)) o.given
        (merge (drop g.walked (sort j.fresh)) o.table_rest)) (sym ha)
        (subst (λ x. Owes (new_stream n pages h j) (new_entries n pages h j) g.writer (octets g.writer.stream.fill (data_of m)) (octets g.writer.hand.len (hand_of m)) (octets g.writer.positions.fill x) o.given
        (merge (drop g.walked (sort j.fresh)) o.table_rest)) (sym en) o.owes));
    staged = staged_same n pages h j m m₁ g.writer.block.count o.given st o.staged;
    listed = o.listed;
    hand_fits = o.hand_fits;
    waiting = o.waiting;
    small_cursor = o.small_cursor;
    small_writer = o.small_writer;
  }

  merges_put : (k : Control) (m : List ℕ) → length m ≡ memory_words → Merges n pages h j k.merging m → Merges n pages h j k.merging (put_control m k)
  merges_put k m l o =
      merges_on k.merging m (put_control m k) (region_put m k l 147520 162 (omega arith)) (region_put m k l 147682 2016 (omega arith)) (region_put m k l 149698 504 (omega arith))
      (region_put m k l 150202 1310 (omega arith)) (region_put m k l 151512 504 (omega arith)) (region_put m k l 152016 504 (omega arith)) o

  walked_small : (g : Merging) (m : List ℕ) → Merges n pages h j g m → Holds (index_of m) (arena_of m) j.table j.fresh → g.walked < 18446744073709551616
  walked_small g m o x = omega (arith, o.walked, (sizes_suffice j.fresh x.fit x.light).0)

  merging_saved : (k : Control) (m : List ℕ) → At n pages h j k m → (control_of (put_control m k)).merging ≡ k.merging
  merging_saved k m o =
      merging_put m k o.keeps.long o.merges.small_cursor o.merges.small_writer (walked_small k.merging m o.merges o.keeps.holds) (omega (arith, o.merges.waiting))

  -- THE STATES that follow
  go_on : (k : Control) (m : List ℕ) (d : Device) → At n pages h j k m → Working n pages h j d → Written n pages h j k.merging.writer.positions.put k.merging.writer.stream.put d →
      Flushes n pages h (world d (put_control m k)) next [] (suc (acts_left n pages h j k.merging))
  go_on k m d o wo wr =
      let e = merging_saved k m o in
      going j (saved_keeps MergingPhase k m o.keeps) (subst (λ g. Merges n pages h j g (put_control m k)) (sym e) (merges_put k m o.keeps.long o.merges)) wo
      (subst (λ g. Written n pages h j g.writer.positions.put g.writer.stream.put d) (sym e) wr) refl refl (ap (λ g. suc (acts_left n pages h j g)) (sym e))

  fetch : (k : Control) (m : List ℕ) (d : Device) (ev : Event) → At n pages h j k m → Working n pages h j d → Written n pages h j k.merging.writer.positions.put k.merging.writer.stream.put d →
      Fetched n pages h j k.merging m ev → Flushes n pages h (world d (put_control m k)) ev [] (acts_left n pages h j k.merging)
  fetch k m d ev o wo wr f =
      let e = merging_saved k m o in
      fetched j (saved_keeps MergingPhase k m o.keeps) (subst (λ g. Merges n pages h j g (put_control m k)) (sym e) (merges_put k m o.keeps.long o.merges)) wo
      (subst (λ g. Written n pages h j g.writer.positions.put g.writer.stream.put d) (sym e) wr) (subst (λ g. Fetched n pages h j g (put_control m k) ev) (sym e) (moved f)) refl (ap (acts_left n pages h j) (sym e))
    where
      moved : Fetched n pages h j k.merging m ev → Fetched n pages h j k.merging (put_control m k) ev
      moved (positions_came q x y) = positions_came q (ap (wanted k.merging.cursor (extent_of j.list)) (region_put m k o.keeps.long 149698 504 (omega arith)) ∙ x) y
      moved (data_came q x y) = data_came q (ap (wanted k.merging.cursor (extent_of j.list)) (region_put m k o.keeps.long 149698 504 (omega arith)) ∙ x) y

  -- acts that are left after an act
  same_acts : (g g₁ : Merging) → SameCounts n pages h j g g₁ → acts_left n pages h j g₁ ≡ acts_left n pages h j g
  same_acts g g₁ s = λ i. 8 + (3 * ((page_count (length (new_stream n pages h j)) - s.puts i) + (page_count (length (new_entries n pages h j)) - s.lists i))
      + ((page_count (length (table_entries (sort h.safe))) - s.listed i) + (page_count (length (table_stream (sort h.safe))) - s.read i) + pick (leb 254 (s.waiting i)) 1 0))

  flag_one : (b : Bool) → ◌≤◌ (pick b 1 0) 1
  flag_one true = omega arith
  flag_one false = omega arith

  module _ (k : Control) (m : List ℕ) (d : Device) (o : At n pages h j k m) (wo : Working n pages h j d)
      (wr : Written n pages h j k.merging.writer.positions.put k.merging.writer.stream.put d) (μ : ℕ) (enough : acts_left n pages h j k.merging < μ) where
    abbrev Then : Turn → List ℕ → Type 0
    Then t m₁ = Next (Flushes n pages h) (Ends core account n pages h flush) d [] (performed t.control t.deed m₁).memory μ (performed t.control t.deed m₁).act

    -- the old table's page that is read is as it was before the flush
    reads : (q : ℕ) → InHalf pages j.list.layout.half q → page (read_page d q) ≡ page (page_at j.before q)
    reads q x = ap page (working_read n pages h j d q wo x)

    lists_below : k.merging.writer.positions.put ≤ page_count (length (new_entries n pages h j))
    lists_below = omega (arith, o.merges.owes.entries_within)

    page_there : (q : ℕ) → InHalf pages (other j.list.layout.half) q → ltb q (length d.pages) ≡ true
    page_there q x = lt-ltb q (length d.pages) (omega (arith, wo.sized, in_half_there n pages h j (all_fit n pages h j) q x))

    recount : (l s l₁ s₁ : ℕ) (d₁ : Device) → l₁ ≡ l → s₁ ≡ s → Written n pages h j l s d₁ → Written n pages h j l₁ s₁ d₁
    recount l s l₁ s₁ d₁ a b x = subst (λ y. Written n pages h j y s₁ d₁) (sym a) (subst (λ y. Written n pages h j l y d₁) (sym b) x)

    data_then : (q : ℕ) (p : Page) → q ≡ data_page n pages h j + k.merging.writer.stream.put → k.merging.writer.stream.put < page_count (length (new_stream n pages h j)) →
        page_of (new_stream n pages h j) k.merging.writer.stream.put ≡ p → Written n pages h j k.merging.writer.positions.put (suc k.merging.writer.stream.put) (queued d q p)
    data_then q p e lt is =
        subst (λ x. Written n pages h j k.merging.writer.positions.put (suc k.merging.writer.stream.put) (queued d x p)) (sym e) (written_data n pages h j (all_fit n pages h j) _ _ d wo wr lists_below lt p is)

    positions_then : (q : ℕ) (p : Page) → q ≡ start_page n pages h j + k.merging.writer.positions.put → k.merging.writer.positions.put < page_count (length (new_entries n pages h j)) →
        page_of (new_entries n pages h j) k.merging.writer.positions.put ≡ p → Written n pages h j (suc k.merging.writer.positions.put) k.merging.writer.stream.put (queued d q p)
    positions_then q p e lt is =
        subst (λ x. Written n pages h j (suc k.merging.writer.positions.put) k.merging.writer.stream.put (queued d x p)) (sym e) (written_positions n pages h j (all_fit n pages h j) _ _ d wo wr lt p is)

    ended : (lists : ℕ) (g : Merging) (d₁ : Device) → Over n pages h j g → Written n pages h j lists (page_count (length (new_stream n pages h j))) d₁ → Ended n pages h j lists g d₁
    ended lists g d₁ v w = record { counted = v.counted; datas = v.datas; written = w; small_cursor = v.small_cursor; small_writer = v.small_writer; small_walked = v.small_walked; small_waiting = v.small_waiting }

    over_saved : (k₁ : Control) (m₁ : List ℕ) → length m₁ ≡ memory_words → Over n pages h j k₁.merging → (control_of (put_control m₁ k₁)).merging ≡ k₁.merging
    over_saved k₁ m₁ l v = merging_put m₁ k₁ l v.small_cursor v.small_writer v.small_walked v.small_waiting

    pub performs : (t : Turn) (m₁ : List ℕ) → Rounded n pages h j k m t m₁ → is_some t.deed ≡ true → Then t m₁
    unfolding performed
    performs t m₁ (more k₁ m₂ a lt s) e = absurd (cc)
    performs t m₁ (fetches q (inl w)) e =
        let (at, lt, on) = cursor_right.positions (extent_of j.list) j.before h.safe k.merging.cursor (ring_of m) (list_of m) o.merges.table_rest q j.stored.there o.merges.walking w in
        (acts_left n pages h j k.merging, enough, fetch k m d _ o wo wr (positions_came q w (reads q (subst (InHalf pages j.list.layout.half) (sym at) (j.stored.in_place.entries k.merging.cursor.listed lt)))))
    performs t m₁ (fetches q (inr w)) e =
        let (at, lt, on) = cursor_right.«data» (extent_of j.list) j.before h.safe k.merging.cursor (ring_of m) (list_of m) o.merges.table_rest q j.stored.there o.merges.walking w in
        (acts_left n pages h j k.merging, enough, fetch k m d _ o wo wr (data_came q w (reads q (subst (InHalf pages j.list.layout.half) (sym at) (j.stored.in_place.stream k.merging.cursor.read lt)))))
    performs t m₁ (settles k₁ a s lots none) e =
        let left : suc (acts_left n pages h j k₁.merging) < μ = settled_left k₁ s lots none in (
          suc (acts_left n pages h j k₁.merging),
          left,
          go_on k₁ m (flushed d) a (working_settled n pages h j d wo)
              (written_settled n pages h j _ _ d (subst (λ x. Written n pages h j x k₁.merging.writer.stream.put d) (sym s.lists) (subst (λ x. Written n pages h j k.merging.writer.positions.put x d) (sym s.puts) wr))),
        )
      where
        settled_left : (k₁ : Control) → SameCounts n pages h j k.merging (record { cursor = k₁.merging.cursor; writer = k₁.merging.writer; walked = k₁.merging.walked; waiting = k.merging.waiting }) →
            254 ≤ k.merging.waiting → k₁.merging.waiting ≡ 0 → suc (acts_left n pages h j k₁.merging) < μ
        settled_left k₁ s lots none =
            let z : ◌≡◌ {A = ℕ} (pick (leb 254 k.merging.waiting) 1 0) 1 = rw (le-leb 254 k.merging.waiting lots) refl in
            let y : ◌≡◌ {A = ℕ} (pick (leb 254 k₁.merging.waiting) 1 0) 0 = rw none refl in
            omega (arith, enough, z, y, s.puts, s.lists, s.listed, s.read)
    performs t m₁ (puts_data k₁ q a nd eq ep el ec) e =
        let inside = data_in_half n pages h j (all_fit n pages h j) k.merging.writer.stream.put nd.number in
        let here : InHalf pages (other j.list.layout.half) q = subst (InHalf pages (other j.list.layout.half)) (sym eq) inside in (
          suc (acts_left n pages h j k₁.merging),
          put_left k₁ nd ep el ec,
          page_there q here,
          nd.page,
          go_on k₁ m _ a (working_put n pages h j d q _ wo here nd.page)
              (recount _ _ _ _ _ el ep (data_then q _ eq nd.number nd.is)),
        )
      where
        put_left : (k₁ : Control) → NextData n pages h j k.merging m → k₁.merging.writer.stream.put ≡ suc k.merging.writer.stream.put → k₁.merging.writer.positions.put ≡ k.merging.writer.positions.put →
            k₁.merging.cursor ≡ k.merging.cursor → suc (acts_left n pages h j k₁.merging) < μ
        put_left k₁ nd ep el ec =
            let c₁ = ap (λ c. c.listed) ec in
            let c₂ = ap (λ c. c.read) ec in
            omega (arith, enough, flag_one (leb 254 k₁.merging.waiting), nd.number, ep, el, c₁, c₂)
    performs t m₁ (puts_positions k₁ q a nd eq ep el ec) e =
        let inside = positions_in_half n pages h j (all_fit n pages h j) k.merging.writer.positions.put nd.number in
        let here : InHalf pages (other j.list.layout.half) q = subst (InHalf pages (other j.list.layout.half)) (sym eq) inside in (
          suc (acts_left n pages h j k₁.merging),
          put_left k₁ nd ep el ec,
          page_there q here,
          nd.page,
          go_on k₁ m _ a (working_put n pages h j d q _ wo here nd.page)
              (recount _ _ _ _ _ ep el (positions_then q _ eq nd.number nd.is)),
        )
      where
        put_left : (k₁ : Control) → NextPositions n pages h j k.merging m → k₁.merging.writer.positions.put ≡ suc k.merging.writer.positions.put → k₁.merging.writer.stream.put ≡ k.merging.writer.stream.put →
            k₁.merging.cursor ≡ k.merging.cursor → suc (acts_left n pages h j k₁.merging) < μ
        put_left k₁ nd ep el ec =
            let c₁ = ap (λ c. c.listed) ec in
            let c₂ = ap (λ c. c.read) ec in
            omega (arith, enough, flag_one (leb 254 k₁.merging.waiting), nd.number, ep, el, c₁, c₂)
    performs t m₁ (closes_data k₁ m₂ q a nd eq v ep el la) e =
        let inside = data_in_half n pages h j (all_fit n pages h j) k.merging.writer.stream.put nd.number in
        let here : InHalf pages (other j.list.layout.half) q = subst (InHalf pages (other j.list.layout.half)) (sym eq) inside in
        let e₁ = over_saved k₁ m₂ a.long v in (
          5,
          omega (arith, enough),
          page_there q here,
          nd.page,
          closed j (saved_keeps Closed k₁ m₂ a)
              (subst (λ g. LastPage n pages h j g (put_control m₂ k₁)) (sym e₁) (last_saved k₁ m₂ a.long la))
              (working_put n pages h j d q _ wo here nd.page)
              (subst (λ g. Ended n pages h j g.writer.positions.put g (queued d q (sealed (octets (min k.merging.writer.stream.fill 504) (data_of m₂))))) (sym e₁)
              (ended _ _ _ v (recount _ _ _ _ _ el (sym (sym ep ∙ v.datas)) (data_then q _ eq nd.number nd.is))))
              refl refl refl,
        )
      where
        last_saved : (k₁ : Control) (m₂ : List ℕ) → length m₂ ≡ memory_words → LastPage n pages h j k₁.merging m₂ → LastPage n pages h j k₁.merging (put_control m₂ k₁)
        last_saved k₁ m₂ l la =
            let r = region_put m₂ k₁ l 152016 504 (omega arith) in
            record {
              number = la.number;
              filled = la.filled;
              is = la.is ∙ ap (λ x. sealed (octets k₁.merging.writer.positions.fill x)) (sym r);
              of_bytes = ap (λ x. all_bytes (octets k₁.merging.writer.positions.fill x)) r ∙ la.of_bytes;
            }
    performs t m₁ (closes_positions k₁ m₂ q f a last is pg eq v ep) e =
        let lt : k.merging.writer.positions.put < page_count (length (new_entries n pages h j)) = omega (arith, last) in
        let inside = positions_in_half n pages h j (all_fit n pages h j) k.merging.writer.positions.put lt in
        let here : InHalf pages (other j.list.layout.half) q = subst (InHalf pages (other j.list.layout.half)) (sym eq) inside in
        let e₁ = over_saved k₁ m₂ a.long v in (
          4,
          omega (arith, enough),
          page_there q here,
          pg,
          placed j (saved_keeps Placed k₁ m₂ a) (working_put n pages h j d q _ wo here pg)
              (subst (λ g. Ended n pages h j (page_count (length (new_entries n pages h j))) g (queued d q (sealed (octets (min f 504) (entries_of m₂))))) (sym e₁)
              (ended _ _ _ v (recount _ _ _ _ _ (sym last) (sym (sym ep ∙ v.datas)) (positions_then q _ eq lt is))))
              refl refl refl,
        )

  -- A STEP OF THE MERGE
  pub merge_step : (k : Control) (m : List ℕ) (d : Device) → At n pages h j k m → Working n pages h j d → Written n pages h j k.merging.writer.positions.put k.merging.writer.stream.put d →
      (μ : ℕ) → acts_left n pages h j k.merging < μ →
      Next (Flushes n pages h) (Ends core account n pages h flush) d [] (merged_on k m).memory μ (merged_on k m).act
  unfolding merged_on
  merge_step k m d o wo wr μ x = go (spun_comes n pages h j k m o)
    where
      go : Spun n pages h j k m (spun 1024 k m) → Next (Flushes n pages h) (Ends core account n pages h flush) d [] (done_by (spun 1024 k m)).memory μ (done_by (spun 1024 k m)).act
      go (comes_to k₁ m₁ a s r e) =
          performs k₁ m₁ d a wo (subst (λ y. Written n pages h j y k₁.merging.writer.stream.put d) (sym s.lists) (subst (λ y. Written n pages h j k.merging.writer.positions.put y d) (sym s.puts) wr)) μ
          (omega (arith, x, same_acts k.merging k₁.merging s)) (spun 1024 k m).turn (spun 1024 k m).memory r e
