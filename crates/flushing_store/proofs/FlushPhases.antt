-- A flush, phase by phase: it begins, a page of the old table comes, and the new table is put and settled.
use Rattle.std.proofs.Common.{◌≡◌, ℕ, suc, ◌+◌, ◌*◌, ◌<◌, ◌≤◌, min, true, ◌⊎◌, List, [], ◌∷◌, length, drop, sym, refl, ap, ◌∙◌, subst, inl, inr, arith, lt-ltb}
use Rattle.value.specs.Versions.{every, Version, added_up, weight}
use Rattle.value.specs.Encoding.{in_limits, fits}
use Rattle.value.specs.Sorted.{sort, merge}
use Rattle.value.proofs.SortLaws.{sort_every, sort_weighs}
use Rattle.value.proofs.MergeLaws.{merge_right}
use Rattle.value.proofs.ListLaws.{fits_in_limits}
use Rattle.memtable.specs.Holds.{Holds}
use Rattle.table.specs.Device.{Device, Page, page_at, flushed, a_page}
use Rattle.table.specs.Layout.{table_stream, table_entries}
use Rattle.table.specs.Sizes.{page_count}
use Rattle.table.specs.Stream.{sealed, page_of}
use Rattle.table.specs.Row.{octets}
use Rattle.table.specs.Writing.{wrap, new_writer, Owes}
use Rattle.table.specs.Cursor.{Walking, wanted, took_positions, took_data, list_with, ring_with}
use Rattle.table.specs.declared.cursor.Cursor.{Cursor}
use Rattle.table.specs.declared.cursor.Want.TheVariants.{Positions as WantsPositions, Data as WantsData}
use Rattle.table.proofs.CursorLaws.{cursor_right}
use Rattle.table.proofs.StreamLaws.{sealed_page_is}
use Rattle.table.proofs.WritingLaws.{starts_owing}
use Rattle.manifest.specs.Places.{other, InHalf, in_half}
use Rattle.store.specs.House.{House, flush, core}
use Rattle.store.specs.Promise.{Event, settle, World, queued}
use Rattle.store.specs.Account.{Next, Ends, most_commands}
use Rattle.flushing_store.specs.Control.{memory_words, base, merging, control_of, put_control, to_phase, stage_region, ring_of, list_of, hand_of, data_of, entries_of}
use Rattle.store.specs.Regions.{within, index_of, arena_of}
use Rattle.flushing_store.specs.Look.{extent_of}
use Rattle.flushing_store.specs.Target.{new_start}
use Rattle.flushing_store.specs.Round.{with_cursor, positions_turn}
use Rattle.flushing_store.specs.Flush.{performed, merged_on, begun_flush, page_merged, page_taken, page_step, last_step}
use Rattle.flushing_store.specs.declared.control.Phase.{Phase}
use Rattle.flushing_store.specs.declared.control.Phase.TheVariants.{Idle, Merging as MergingPhase, Closed, Placed, Settled}
use Rattle.flushing_store.specs.declared.control.Control.{Control}
use Rattle.flushing_store.proofs.RegionLaws.{SmallCursor, merging_put}
use Rattle.store.proofs.RegionLaws.{region_same, region_above, region_below, length_region}
use Rattle.flushing_store.proofs.StoredLaws.{AllPages}
use Rattle.flushing_store.proofs.OwnAccount.{Rest}
use Rattle.flushing_store.proofs.WholeAccount.{account}
use Rattle.flushing_store.proofs.FlushAccount.{Job, new_stream, new_entries, start_page, Working, Written, KeepsMemory, Merges, none_yet, acts_left, Ended, LastPage, Flushes, placed, settled}
use Rattle.flushing_store.proofs.WorkLaws.{working_settled, working_put, written_settled, positions_fit, table_fits_half, positions_in_half, in_half_there, written_positions}
use Rattle.flushing_store.proofs.RoundAccount.{all_fit, start_is, start_small, half_room, At}
use Rattle.flushing_store.proofs.PageRounds.{keeps_within, staged_same, small_positions}
use Rattle.flushing_store.proofs.FlushSteps.{saved_keeps, merge_step}
use Rattle.flushing_store.proofs.BytesLaws.{octets_of_bytes}

-- THE JOB of a flush, from what rests
abbrev pub job_of : (n pages : ℕ) (h : House) (p : Phase) (w : World) (r : Rest n pages h p w) → 0 < length r.held.fresh → Job n pages h
job_of n pages h p w r x = record {
  list = r.list;
  before = w.device.pages;
  fresh = r.held.fresh;
  table = r.held.table;
  commits = r.commits;
  stored = r.stored;
  all_is = r.held.all_is;
  some = x;
  rises = r.held.rises;
  last_is = r.held.last_is;
  early = r.held.early;
  none_low = r.held.none_low;
  fit = r.held.fit;
  room = r.held.room;
  fits_list = r.held.fits_list;
  weighed = r.held.holds.weighed;
  counted = r.held.holds.counted;
}

weight_counts : (vs : List Version) → 64 * length vs ≤ weight vs
unfolding added_up
weight_counts [] = omega arith
weight_counts (v ∷ vs) = omega (arith, weight_counts vs)

-- IT BEGINS: nothing waits, and everything is owed
module _ (n pages : ℕ) (h : House) (j : Job n pages h) where
  pub at_rest : (d : Device) → d.pages ≡ j.before → d.queue ≡ [] → Working n pages h j d
  unfolding in_half every
  at_rest d e q = record {
    sized = ap length e ∙ j.stored.sized;
    same = λ k x. ap (λ ps. page_at ps k) e;
    waits = rw q refl;
    all_pages = subst AllPages (sym e) j.stored.all_pages;
    whole_writes = rw q refl;
  }

  pub nothing_written : (d : Device) → Written n pages h j 0 0 d
  nothing_written d = record { entries = λ i x. absurd (omega arith); stream = λ i x. absurd (omega arith) }

  versions_few : length (sort h.versions) < 4294967296
  versions_few = omega (arith, (sort_weighs h.versions).1, weight_counts h.versions, j.room, j.stored.few)

  pub begins_so : (k : Control) (m : List ℕ) → length m ≡ memory_words → k.base ≡ base Idle pages h.last j.table → k.manifest ≡ j.list → Holds (index_of m) (arena_of m) j.table j.fresh → At n pages h j (begun_flush k) m
  unfolding octets
  begins_so k m l b f o = record {
    keeps = record { long = l; base_is = λ i. base MergingPhase (b i).pages (b i).last (b i).table; manifest_is = f; holds = o };
    merges = record {
      table_rest = sort h.safe;
      given = [];
      walking = cursor_right.opens (extent_of j.list) j.before h.safe (ring_of m) (list_of m) j.stored.there (length_region 147682 2016 m (omega arith)) (length_region 149698 504 m (omega arith));
      table_fit = sort_every fits h.safe ∙ j.stored.fit;
      walked = omega arith;
      owes = subst (λ r. Owes (new_stream n pages h j) (new_entries n pages h j) new_writer [] [] [] [] r) (sym (merge_right h.safe j.fresh ∙ ap sort (sym j.all_is)))
          (starts_owing (sort h.versions) (sort_every in_limits h.versions ∙ fits_in_limits h.versions (all_fit n pages h j)) versions_few
          (omega (arith, half_room n pages h j, start_small n pages h j)) (omega (arith, positions_fit pages h.versions j.stored.many j.room (all_fit n pages h j), half_room n pages h j, start_small n pages h j)));
      staged = none_yet;
      listed = refl;
      hand_fits = omega arith;
      waiting = omega arith;
      small_cursor = record { block = omega arith; at = omega arith; listed = omega arith; read = omega arith };
      small_writer = record { begin = omega arith; used = omega arith; count = omega arith; len = omega arith; taken = omega arith; fill = omega arith; put = omega arith; listed = omega arith; lists = omega arith };
    };
  }

  -- A PAGE OF THE TABLE CAME
  module _ (k : Control) (m : List ℕ) (o : At n pages h j k m) where
    -- another cursor, and what else is in memory is the same
    moved : (c : Cursor) (m₁ : List ℕ) → stage_region m₁ ≡ stage_region m → hand_of m₁ ≡ hand_of m → data_of m₁ ≡ data_of m → entries_of m₁ ≡ entries_of m →
        Walking (extent_of j.list) j.before h.safe c (ring_of m₁) (list_of m₁) o.merges.table_rest → SmallCursor c →
        Merges n pages h j (merging c k.merging.writer k.merging.walked k.merging.waiting) m₁
    moved c m₁ st ha da en wa sc =
        let r = o.merges in
        record {
          table_rest = r.table_rest;
          given = r.given;
          walking = wa;
          table_fit = r.table_fit;
          walked = r.walked;
          owes = subst (λ x. Owes (new_stream n pages h j) (new_entries n pages h j) k.merging.writer (octets k.merging.writer.stream.fill x) (octets k.merging.writer.hand.len (hand_of m₁)) (octets k.merging.writer.positions.fill (entries_of m₁)) r.given
              (merge (drop k.merging.walked (sort j.fresh)) r.table_rest)) (sym da)
              (subst (λ x. Owes (new_stream n pages h j) (new_entries n pages h j) k.merging.writer (octets k.merging.writer.stream.fill (data_of m)) (octets k.merging.writer.hand.len x) (octets k.merging.writer.positions.fill (entries_of m₁)) r.given
              (merge (drop k.merging.walked (sort j.fresh)) r.table_rest)) (sym ha)
              (subst (λ x. Owes (new_stream n pages h j) (new_entries n pages h j) k.merging.writer (octets k.merging.writer.stream.fill (data_of m)) (octets k.merging.writer.hand.len (hand_of m)) (octets k.merging.writer.positions.fill x) r.given
              (merge (drop k.merging.walked (sort j.fresh)) r.table_rest)) (sym en) r.owes));
          staged = staged_same n pages h j m m₁ k.merging.writer.block.count r.given st r.staged;
          listed = r.listed;
          hand_fits = r.hand_fits;
          waiting = r.waiting;
          small_cursor = sc;
          small_writer = r.small_writer;
        }

    -- the old table's pages are few
    old_short : (page_count (length (table_entries (sort h.safe))) < 4294967296) × (page_count (length (table_stream (sort h.safe))) < 4294967296)
    old_short = (
      omega (arith, positions_fit pages h.safe j.stored.many j.stored.room j.stored.fit, table_fits_half pages h.safe j.stored.many j.stored.room j.stored.fit, j.stored.few),
      omega (arith, table_fits_half pages h.safe j.stored.many j.stored.room j.stored.fit, j.stored.few),
    )

    -- it was a page of positions
    positions_taken : (q : ℕ) → wanted k.merging.cursor (extent_of j.list) (list_of m) ≡ WantsPositions q →
        At n pages h j (with_cursor k (took_positions k.merging.cursor)) (within 149698 504 (list_with (page_at j.before q)) m)
        × (acts_left n pages h j (with_cursor k (took_positions k.merging.cursor)).merging < acts_left n pages h j k.merging)
    positions_taken q x =
        let (at, lt, on) = cursor_right.positions (extent_of j.list) j.before h.safe k.merging.cursor (ring_of m) (list_of m) o.merges.table_rest q j.stored.there o.merges.walking x in
        let g = list_with (page_at j.before q) in
        let fits₁ : 149698 + 504 ≤ length m = omega (arith, o.keeps.long) in
        let el : length (list_with (page_at j.before q) (list_of m)) ≡ 504 = on.list_long in
        let m₁ = within 149698 504 (list_with (page_at j.before q)) m in
        let here : list_of m₁ ≡ list_with (page_at j.before q) (list_of m) = region_same 149698 504 g m fits₁ el in
        let ring : ring_of m₁ ≡ ring_of m = region_below 149698 504 147682 2016 g m fits₁ (omega arith) in
        let e : wrap (k.merging.cursor.listed + 1) ≡ suc k.merging.cursor.listed = omega (arith, lt, old_short) in (
          record {
            keeps = keeps_within n pages h j MergingPhase (with_cursor k (took_positions k.merging.cursor)) m 149698 504 g record { long = o.keeps.long; base_is = o.keeps.base_is; manifest_is = o.keeps.manifest_is; holds = o.keeps.holds } (omega arith) (omega arith) el;
            merges = moved (took_positions k.merging.cursor) m₁ (region_below 149698 504 147520 162 g m fits₁ (omega arith)) (region_above 149698 504 150202 1310 g m fits₁ el (omega arith))
                (region_above 149698 504 151512 504 g m fits₁ el (omega arith)) (region_above 149698 504 152016 504 g m fits₁ el (omega arith))
                (subst (λ r. Walking (extent_of j.list) j.before h.safe (took_positions k.merging.cursor) r (list_of m₁) o.merges.table_rest) (sym ring)
                (subst (λ r. Walking (extent_of j.list) j.before h.safe (took_positions k.merging.cursor) (ring_of m) r o.merges.table_rest) (sym here) on))
                record { block = o.merges.small_cursor.block; at = o.merges.small_cursor.at; listed = omega arith; read = o.merges.small_cursor.read };
          },
          omega (arith, e, lt),
        )

    -- it was a page of data
    data_taken : (q : ℕ) → wanted k.merging.cursor (extent_of j.list) (list_of m) ≡ WantsData q →
        At n pages h j (with_cursor k (took_data k.merging.cursor)) (within 147682 2016 (ring_with k.merging.cursor (page_at j.before q)) m)
        × (acts_left n pages h j (with_cursor k (took_data k.merging.cursor)).merging < acts_left n pages h j k.merging)
    data_taken q x =
        let (at, lt, on) = cursor_right.«data» (extent_of j.list) j.before h.safe k.merging.cursor (ring_of m) (list_of m) o.merges.table_rest q j.stored.there o.merges.walking x in
        let g = ring_with k.merging.cursor (page_at j.before q) in
        let fits₁ : 147682 + 2016 ≤ length m = omega (arith, o.keeps.long) in
        let el : length (ring_with k.merging.cursor (page_at j.before q) (ring_of m)) ≡ 2016 = on.ring_long in
        let m₁ = within 147682 2016 (ring_with k.merging.cursor (page_at j.before q)) m in
        let here : ring_of m₁ ≡ ring_with k.merging.cursor (page_at j.before q) (ring_of m) = region_same 147682 2016 g m fits₁ el in
        let list : list_of m₁ ≡ list_of m = region_above 147682 2016 149698 504 g m fits₁ el (omega arith) in
        let e : wrap (k.merging.cursor.read + 1) ≡ suc k.merging.cursor.read = omega (arith, lt, old_short) in (
          record {
            keeps = keeps_within n pages h j MergingPhase (with_cursor k (took_data k.merging.cursor)) m 147682 2016 g record { long = o.keeps.long; base_is = o.keeps.base_is; manifest_is = o.keeps.manifest_is; holds = o.keeps.holds } (omega arith) (omega arith) el;
            merges = moved (took_data k.merging.cursor) m₁ (region_below 147682 2016 147520 162 g m fits₁ (omega arith)) (region_above 147682 2016 150202 1310 g m fits₁ el (omega arith))
                (region_above 147682 2016 151512 504 g m fits₁ el (omega arith)) (region_above 147682 2016 152016 504 g m fits₁ el (omega arith))
                (subst (λ r. Walking (extent_of j.list) j.before h.safe (took_data k.merging.cursor) r (list_of m₁) o.merges.table_rest) (sym here)
                (subst (λ r. Walking (extent_of j.list) j.before h.safe (took_data k.merging.cursor) (ring_with k.merging.cursor (page_at j.before q) (ring_of m)) r o.merges.table_rest) (sym list) on))
                record { block = o.merges.small_cursor.block; at = o.merges.small_cursor.at; listed = o.merges.small_cursor.listed; read = omega arith };
          },
          omega (arith, e, lt),
        )

    -- and the merge goes on
    pub page_goes : (d : Device) (ev : Event) (μ : ℕ) → Working n pages h j d → Written n pages h j k.merging.writer.positions.put k.merging.writer.stream.put d → μ ≡ acts_left n pages h j k.merging →
        (q : ℕ) → (wanted k.merging.cursor (extent_of j.list) (list_of m) ≡ WantsPositions q) ⊎ (wanted k.merging.cursor (extent_of j.list) (list_of m) ≡ WantsData q) →
        Next (Flushes n pages h) (Ends core account n pages h flush) d [] (page_step k m (page_at j.before q)).memory μ (page_step k m (page_at j.before q)).act
    unfolding page_merged
    page_goes d ev μ wo wr z q (inl x) =
        let (a, less) = positions_taken q x in
        subst (λ y. Next (Flushes n pages h) (Ends core account n pages h flush) d [] (merged_on (page_taken k m (page_at j.before q) y).turn.control (page_taken k m (page_at j.before q) y).memory).memory μ
        (merged_on (page_taken k m (page_at j.before q) y).turn.control (page_taken k m (page_at j.before q) y).memory).act)
        (sym (ap (λ f. wanted k.merging.cursor (extent_of f) (list_of m)) o.keeps.manifest_is ∙ x))
        (merge_step n pages h j _ _ d a wo wr μ (omega (arith, z, less)))
    page_goes d ev μ wo wr z q (inr x) =
        let (a, less) = data_taken q x in
        subst (λ y. Next (Flushes n pages h) (Ends core account n pages h flush) d [] (merged_on (page_taken k m (page_at j.before q) y).turn.control (page_taken k m (page_at j.before q) y).memory).memory μ
        (merged_on (page_taken k m (page_at j.before q) y).turn.control (page_taken k m (page_at j.before q) y).memory).act)
        (sym (ap (λ f. wanted k.merging.cursor (extent_of f) (list_of m)) o.keeps.manifest_is ∙ x))
        (merge_step n pages h j _ _ d a wo wr μ (omega (arith, z, less)))

  -- THE END OF A FLUSH, phase by phase
  module _ (few : n < most_commands) (m : List ℕ) (d : Device) where
    abbrev k : Control
    k = control_of m

    abbrev all_lists : ℕ
    all_lists = page_count (length (new_entries n pages h j))

    -- another phase
    pub turned_to : (p q : Phase) → KeepsMemory n pages h j p k m → KeepsMemory n pages h j q (to_phase k q) m
    turned_to p q o = record { long = o.long; base_is = λ i. base q (o.base_is i).pages (o.base_is i).last (o.base_is i).table; manifest_is = o.manifest_is; holds = o.holds }

    pub merging_kept : (lists : ℕ) (q : Phase) (d₁ : Device) → length m ≡ memory_words → Ended n pages h j lists k.merging d₁ → (control_of (put_control m (to_phase k q))).merging ≡ k.merging
    merging_kept lists q d₁ l en = merging_put m (to_phase k q) l en.small_cursor en.small_writer en.small_walked en.small_waiting

    pub after_closed : KeepsMemory n pages h j Closed k m → LastPage n pages h j k.merging m → Working n pages h j d → Ended n pages h j k.merging.writer.positions.put k.merging d → (μ : ℕ) → μ ≡ 5 →
        Next (Flushes n pages h) (Ends core account n pages h flush) d [] (last_step k m).memory μ (last_step k m).act
    unfolding last_step performed
    after_closed o la wo en μ z =
        let lists : ℕ = k.merging.writer.positions.put in
        let lt : lists < all_lists = omega (arith, la.number) in
        let k₁ : Control = (positions_turn (to_phase k Placed)).control in
        let q : ℕ = wrap (new_start (to_phase k Placed) + lists) in
        let cut : min k.merging.writer.positions.fill 504 ≡ k.merging.writer.positions.fill = omega (arith, la.filled) in
        let pg : Page = sealed (octets (min k.merging.writer.positions.fill 504) (entries_of m)) in
        let whole : a_page pg ≡ true = (sealed_page_is (octets (min k.merging.writer.positions.fill 504) (entries_of m)) (octets_of_bytes (min k.merging.writer.positions.fill 504) (entries_of m))).0 in
        let number : wrap (start_page n pages h j + lists) ≡ start_page n pages h j + lists = omega (arith, start_small n pages h j, half_room n pages h j, lt, positions_fit pages h.versions j.stored.many j.room (all_fit n pages h j)) in
        let eq : q ≡ start_page n pages h j + lists = ap (λ i. wrap (i + lists)) (start_is n pages h j Placed (to_phase k Placed) m (turned_to Closed Placed o)) ∙ number in
        let here : InHalf pages (other j.list.layout.half) q = subst (InHalf pages (other j.list.layout.half)) (sym eq) (positions_in_half n pages h j (all_fit n pages h j) lists lt) in
        let is : page_of (new_entries n pages h j) lists ≡ pg = la.is ∙ ap (λ i. sealed (octets i (entries_of m))) (sym cut) in
        let wr : Written n pages h j (suc lists) (page_count (length (new_stream n pages h j))) (queued d q pg) =
        subst (λ x. Written n pages h j (suc lists) (page_count (length (new_stream n pages h j))) (queued d x pg)) (sym eq) (written_positions n pages h j (all_fit n pages h j) lists _ d wo en.written lt pg is) in
        let small = small_positions k.merging.writer en.small_writer in
        let e₁ : (control_of (put_control m k₁)).merging ≡ k₁.merging = merging_put m k₁ o.long en.small_cursor small en.small_walked (omega arith) in (
          4,
          omega arith,
          lt-ltb q (length d.pages) (omega (arith, wo.sized, in_half_there n pages h j (all_fit n pages h j) q here)),
          whole,
          placed j (saved_keeps n pages h j Placed k₁ m (keeps_merging o)) (working_put n pages h j d q pg wo here whole)
              (subst (λ g. Ended n pages h j all_lists g (queued d q pg)) (sym e₁)
              record {
                counted = en.counted;
                datas = en.datas;
                written = subst (λ x. Written n pages h j x (page_count (length (new_stream n pages h j))) (queued d q pg)) la.number wr;
                small_cursor = en.small_cursor;
                small_writer = small;
                small_walked = en.small_walked;
                small_waiting = omega arith;
              }) refl refl refl,
        )
      where
        keeps_merging : KeepsMemory n pages h j Closed k m → KeepsMemory n pages h j Placed (positions_turn (to_phase k Placed)).control m
        keeps_merging o = record { long = o.long; base_is = λ i. base Placed (o.base_is i).pages (o.base_is i).last (o.base_is i).table; manifest_is = o.manifest_is; holds = o.holds }

    pub after_placed : KeepsMemory n pages h j Placed k m → Working n pages h j d → Ended n pages h j all_lists k.merging d → (μ : ℕ) → μ ≡ 4 →
        Next (Flushes n pages h) (Ends core account n pages h flush) d [] (put_control m (to_phase k Settled)) μ settle
    after_placed o wo en μ z =
        let e₁ = merging_kept all_lists Settled d o.long en in (
          3,
          omega arith,
          settled j (saved_keeps n pages h j Settled (to_phase k Settled) m (turned_to Placed Settled o)) (working_settled n pages h j d wo) refl
              (subst (λ g. Ended n pages h j all_lists g (flushed d)) (sym e₁)
              record {
                counted = en.counted;
                datas = en.datas;
                written = written_settled n pages h j _ _ d en.written;
                small_cursor = en.small_cursor;
                small_writer = en.small_writer;
                small_walked = en.small_walked;
                small_waiting = en.small_waiting;
              }) refl refl refl,
        )
