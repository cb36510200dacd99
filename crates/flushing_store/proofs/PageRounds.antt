-- Rounds of a flush that put a page, settle, or move bytes from the hand to the page.
use Rattle.std.proofs.Common.{◌≡◌, ℕ, suc, ◌+◌, ◌-◌, ◌*◌, ◌<◌, ◌≤◌, min, Bool, true, false, ltb, List, ◌++◌, length, take, drop, sym, refl, ap, ◌∙◌, subst, arith, length-append, lt-ltb}
use Rattle.std.proofs.lemmas.List.{length-drop}
use Rattle.value.specs.Versions.{pick, Version}
use Rattle.value.specs.Sorted.{sort, merge}
use Rattle.memtable.specs.Arena.{key_at, moment_at}
use Rattle.memtable.specs.Holds.{Holds}
use Rattle.table.specs.Stream.{sealed}
use Rattle.table.specs.Row.{octets}
use Rattle.table.specs.Writing.{wrap, took, put_data, put_positions, Owes}
use Rattle.table.specs.Cursor.{Walking}
use Rattle.table.specs.declared.writer.Writer.{Writer}
use Rattle.table.proofs.StreamLaws.{sealed_page_is}
use Rattle.table.proofs.RowLaws.{length_octets}
use Rattle.table.proofs.WritingLaws.{takes, puts}
use Rattle.store.specs.House.{House}
use Rattle.flushing_store.specs.Control.{memory_words, stage_region, ring_of, list_of, hand_of, data_of, entries_of}
use Rattle.store.specs.Regions.{within, region, index_of, arena_of}
use Rattle.flushing_store.specs.Octets.{put_octets}
use Rattle.flushing_store.specs.Look.{extent_of}
use Rattle.flushing_store.specs.Round.{took_bytes, settled_turn, data_turn, positions_turn, took_turn}
use Rattle.flushing_store.specs.declared.control.Phase.{Phase}
use Rattle.flushing_store.specs.declared.control.Phase.TheVariants.{Merging as MergingPhase}
use Rattle.flushing_store.specs.declared.control.Control.{Control}
use Rattle.flushing_store.proofs.RegionLaws.{SmallWriter}
use Rattle.store.proofs.RegionLaws.{length_within, region_same, region_above, region_below, length_region}
use Rattle.flushing_store.proofs.BytesLaws.{take_octets, drop_octets, octets_again, octets_put, put_octets_long, octets_of_bytes}
use Rattle.flushing_store.proofs.FlushAccount.{Job, new_stream, new_entries, start_page, data_page, KeepsMemory, Staged, none_yet, last_given}
use Rattle.flushing_store.proofs.RoundAccount.{start_is, data_is, start_small, half_room, At, rounds_left, Rounded, more, settles, puts_data, puts_positions}

-- what comes first is within
pub front_fits : (a : ℕ) (W page rest : List ℕ) → drop a W ≡ page ++ rest → a ≤ length W → a + length page ≤ length W
front_fits a W page rest e h = omega (arith, ap length e, length-append page rest, length-drop a W)

-- the numbers of a writer stay within 64 bits
module _ (w : Writer) (s : SmallWriter w) where
  pub small_data : SmallWriter (put_data w)
  small_data = record { begin = s.begin; used = s.used; count = s.count; len = s.len; taken = s.taken; fill = omega arith; put = omega arith; listed = s.listed; lists = s.lists }

  pub small_positions : SmallWriter (put_positions w)
  small_positions = record { begin = s.begin; used = s.used; count = s.count; len = s.len; taken = s.taken; fill = s.fill; put = s.put; listed = omega arith; lists = omega arith }

  pub small_took : (n : ℕ) → SmallWriter (took w n)
  small_took n = record { begin = s.begin; used = s.used; count = s.count; len = s.len; taken = omega arith; fill = omega arith; put = s.put; listed = s.listed; lists = s.lists }

module _ (n pages : ℕ) (h : House) (j : Job n pages h) (k : Control) (m : List ℕ) (o : At n pages h j k m) where
  -- ENOUGH PAGES WAIT
  pub settle_round : 254 ≤ k.merging.waiting → Rounded n pages h j k m (settled_turn k) m
  settle_round x =
      settles _ record {
        keeps = record { long = o.keeps.long; base_is = o.keeps.base_is; manifest_is = o.keeps.manifest_is; holds = o.keeps.holds };
        merges = record {
          table_rest = o.merges.table_rest;
          given = o.merges.given;
          walking = o.merges.walking;
          table_fit = o.merges.table_fit;
          walked = o.merges.walked;
          owes = o.merges.owes;
          staged = o.merges.staged;
          listed = o.merges.listed;
          hand_fits = o.merges.hand_fits;
          waiting = omega arith;
          small_cursor = o.merges.small_cursor;
          small_writer = o.merges.small_writer;
        };
      }
      record { puts = refl; lists = refl; listed = refl; read = refl; waiting = refl } x refl

  -- A PAGE OF DATA
  data_long : 504 ≤ k.merging.writer.stream.fill → 504 * k.merging.writer.stream.put + 504 ≤ length (new_stream n pages h j)
  data_long x =
      let f : 504 * k.merging.writer.stream.put + length (octets k.merging.writer.stream.fill (data_of m)) ≤ length (new_stream n pages h j) =
      front_fits (504 * k.merging.writer.stream.put) (new_stream n pages h j) _ _ o.merges.owes.stream o.merges.owes.stream_within in
      omega (arith, f, length_octets k.merging.writer.stream.fill (data_of m))

  pub data_round : k.merging.waiting < 254 → 504 ≤ k.merging.writer.stream.fill → Rounded n pages h j k m (data_turn k) m
  unfolding octets
  data_round x y =
      let fill : ℕ = k.merging.writer.stream.fill in
      let put : ℕ = k.merging.writer.stream.put in
      let full : fill ≡ 504 = omega (arith, o.merges.owes.page_holds) in
      let (is, after) = (puts (new_stream n pages h j) (new_entries n pages h j) k.merging.writer _ _ _ _ _ o.merges.owes).0 full in
      let lots = data_long y in
      let cut : min fill 504 ≡ fill = omega arith in
      let e : wrap (put + 1) ≡ suc put = omega (arith, o.merges.owes.short) in
      let waits : wrap (k.merging.waiting + 1) ≤ 254 = omega arith in
      let number : wrap (data_page n pages h j + put) ≡ data_page n pages h j + put = omega (arith, start_small n pages h j, half_room n pages h j, o.merges.owes.short) in
      puts_data _ _ record {
        keeps = record { long = o.keeps.long; base_is = o.keeps.base_is; manifest_is = o.keeps.manifest_is; holds = o.keeps.holds };
        merges = record {
          table_rest = o.merges.table_rest;
          given = o.merges.given;
          walking = o.merges.walking;
          table_fit = o.merges.table_fit;
          walked = o.merges.walked;
          owes = after;
          staged = o.merges.staged;
          listed = o.merges.listed;
          hand_fits = o.merges.hand_fits;
          waiting = waits;
          small_cursor = o.merges.small_cursor;
          small_writer = small_data k.merging.writer o.merges.small_writer;
        };
      }
      record {
        number = omega (arith, lots);
        is = is ∙ ap (λ i. sealed (octets i (data_of m))) (sym cut);
        page = (sealed_page_is (octets (min fill 504) (data_of m)) (octets_of_bytes (min fill 504) (data_of m))).0;
      }
      (ap (λ i. wrap (i + put)) (data_is n pages h j MergingPhase k m o.keeps) ∙ number) e refl refl

  -- A PAGE OF POSITIONS
  list_long : 504 ≤ k.merging.writer.positions.fill → 504 * k.merging.writer.positions.put + 504 ≤ length (new_entries n pages h j)
  list_long x =
      let f : 504 * k.merging.writer.positions.put + length (octets k.merging.writer.positions.fill (entries_of m)) ≤ length (new_entries n pages h j) =
      front_fits (504 * k.merging.writer.positions.put) (new_entries n pages h j) _ _ o.merges.owes.entries o.merges.owes.entries_within in
      omega (arith, f, length_octets k.merging.writer.positions.fill (entries_of m))

  pub positions_round : k.merging.waiting < 254 → 504 ≤ k.merging.writer.positions.fill → Rounded n pages h j k m (positions_turn k) m
  unfolding octets
  positions_round x y =
      let fill : ℕ = k.merging.writer.positions.fill in
      let put : ℕ = k.merging.writer.positions.put in
      let full : fill ≡ 504 = omega (arith, o.merges.owes.list_holds) in
      let (is, after) = (puts (new_stream n pages h j) (new_entries n pages h j) k.merging.writer _ _ _ _ _ o.merges.owes).1 full in
      let lots = list_long y in
      let cut : min fill 504 ≡ fill = omega arith in
      let e : wrap (put + 1) ≡ suc put = omega (arith, o.merges.owes.list_short) in
      let waits : wrap (k.merging.waiting + 1) ≤ 254 = omega arith in
      let number : wrap (start_page n pages h j + put) ≡ start_page n pages h j + put = omega (arith, start_small n pages h j, o.merges.owes.list_short) in
      puts_positions _ _ record {
        keeps = record { long = o.keeps.long; base_is = o.keeps.base_is; manifest_is = o.keeps.manifest_is; holds = o.keeps.holds };
        merges = record {
          table_rest = o.merges.table_rest;
          given = o.merges.given;
          walking = o.merges.walking;
          table_fit = o.merges.table_fit;
          walked = o.merges.walked;
          owes = after;
          staged = o.merges.staged;
          listed = omega (arith, o.merges.listed, e, full);
          hand_fits = o.merges.hand_fits;
          waiting = waits;
          small_cursor = o.merges.small_cursor;
          small_writer = small_positions k.merging.writer o.merges.small_writer;
        };
      }
      record {
        number = omega (arith, lots);
        is = is ∙ ap (λ i. sealed (octets i (entries_of m))) (sym cut);
        page = (sealed_page_is (octets (min fill 504) (entries_of m)) (octets_of_bytes (min fill 504) (entries_of m))).0;
      }
      (ap (λ i. wrap (i + put)) (start_is n pages h j MergingPhase k m o.keeps) ∙ number) e refl refl

-- A CHANGE BEHIND THE ARENA keeps what is in memory
pub keeps_within : (n pages : ℕ) (h : House) (j : Job n pages h) (p : Phase) (k : Control) (m : List ℕ) (a c : ℕ) (g : List ℕ → List ℕ) → KeepsMemory n pages h j p k m → 147520 ≤ a → a + c ≤ memory_words →
    length (g (region a c m)) ≡ c → KeepsMemory n pages h j p k (within a c g m)
keeps_within n pages h j p k m a c g o lo hi e =
    let fits : a + c ≤ length m = omega (arith, o.long) in
    record {
      long = length_within a c g m fits e ∙ o.long;
      base_is = o.base_is;
      manifest_is = o.manifest_is;
      holds = subst (λ x. Holds x (arena_of (within a c g m)) j.table j.fresh) (sym (region_below a c 64 16384 g m fits (omega arith)))
          (subst (λ x. Holds (index_of m) x j.table j.fresh) (sym (region_below a c 16448 131072 g m fits (omega arith))) o.holds);
    }

-- another stage with the same version in it
pub staged_same : (n pages : ℕ) (h : House) (j : Job n pages h) (m m₁ : List ℕ) (c : ℕ) (p : List Version) → stage_region m₁ ≡ stage_region m → Staged n pages h j m c p → Staged n pages h j m₁ c p
staged_same n pages h j m m₁ c p e none_yet = none_yet
staged_same n pages h j m m₁ c p e (last_given d u a b) = last_given d u (ap (λ x. key_at x 0) e ∙ a) (ap (λ x. moment_at x 0) e ∙ b)

-- BYTES GO FROM THE HAND TO THE PAGE
module _ (n pages : ℕ) (h : House) (j : Job n pages h) (k : Control) (m : List ℕ) (o : At n pages h j k m) where
  taken_bytes : (taken fill c len : ℕ) → fill + c ≤ 504 → taken + c ≤ len → len ≤ 1302 →
      octets (fill + c) (data_of (took_bytes taken fill c m)) ≡ octets fill (data_of m) ++ take c (drop taken (octets len (hand_of m)))
  unfolding took_bytes
  taken_bytes taken fill c len x y z =
      let bs : List ℕ = octets (min c 504) (drop (min taken 1310) (hand_of m)) in
      let ec : min c 504 ≡ c = omega arith in
      let et : min taken 1310 ≡ taken = omega arith in
      let el : taken + (len - taken) ≡ len = omega arith in
      let long : length (data_of m) ≡ 504 = length_region 151512 504 m (omega (arith, o.keeps.long)) in
      let lb : length (octets (min c 504) (drop (min taken 1310) (hand_of m))) ≡ c = length_octets (min c 504) (drop (min taken 1310) (hand_of m)) ∙ ec in
      let here : data_of (within 151512 504 (put_octets fill (octets (min c 504) (drop (min taken 1310) (hand_of m)))) m) ≡ put_octets fill (octets (min c 504) (drop (min taken 1310) (hand_of m))) (data_of m) =
      region_same 151512 504 (put_octets fill (octets (min c 504) (drop (min taken 1310) (hand_of m)))) m (omega (arith, o.keeps.long)) (put_octets_long fill (octets (min c 504) (drop (min taken 1310) (hand_of m))) (data_of m) ∙ long) in
      let hand : octets (min c 504) (drop (min taken 1310) (hand_of m)) ≡ take c (drop taken (octets len (hand_of m))) =
      (λ i. octets (ec i) (drop (et i) (hand_of m))) ∙ sym (take_octets c (len - taken) (drop taken (hand_of m)) (omega arith)) ∙ ap (take c) (sym (drop_octets taken (len - taken) (hand_of m)) ∙ ap (λ i. drop taken (octets i (hand_of m))) el) in
      ap (octets (fill + c)) here ∙ ap (λ i. octets (fill + i) (put_octets fill (octets (min c 504) (drop (min taken 1310) (hand_of m))) (data_of m))) (sym lb)
      ∙ octets_put fill (octets (min c 504) (drop (min taken 1310) (hand_of m))) (data_of m) (omega (arith, lb, long))
      ∙ ap (λ y. octets fill (data_of m) ++ y) (ap (λ i. octets i (octets (min c 504) (drop (min taken 1310) (hand_of m)))) (lb ∙ sym ec) ∙ octets_again (min c 504) (drop (min taken 1310) (hand_of m)) ∙ hand)

  pub take_round : k.merging.writer.stream.fill < 504 → k.merging.writer.hand.taken < k.merging.writer.hand.len →
      Rounded n pages h j k m (took_turn k (min (504 - k.merging.writer.stream.fill) (k.merging.writer.hand.len - k.merging.writer.hand.taken)))
      (took_bytes k.merging.writer.hand.taken k.merging.writer.stream.fill (min (504 - k.merging.writer.stream.fill) (k.merging.writer.hand.len - k.merging.writer.hand.taken)) m)
  unfolding took_bytes
  take_round x y =
      let fill : ℕ = k.merging.writer.stream.fill in
      let taken : ℕ = k.merging.writer.hand.taken in
      let len : ℕ = k.merging.writer.hand.len in
      let c : ℕ = min (504 - k.merging.writer.stream.fill) (k.merging.writer.hand.len - k.merging.writer.hand.taken) in
      let g : List ℕ → List ℕ = put_octets fill (octets (min c 504) (drop (min taken 1310) (hand_of m))) in
      let m₁ : List ℕ = within 151512 504 g m in
      let fits : 151512 + 504 ≤ length m = omega (arith, o.keeps.long) in
      let el : length (g (region 151512 504 m)) ≡ 504 = put_octets_long fill (octets (min c 504) (drop (min taken 1310) (hand_of m))) (data_of m) ∙ length_region 151512 504 m fits in
      let ef : wrap (fill + c) ≡ fill + c = omega arith in
      let et : wrap (taken + c) ≡ taken + c = omega (arith, o.merges.hand_fits) in
      let owes = takes (new_stream n pages h j) (new_entries n pages h j) k.merging.writer _ _ _ _ _ c (omega arith) (omega arith) o.merges.owes in
      let page : octets (wrap (fill + c)) (data_of m₁) ≡ octets fill (data_of m) ++ take c (drop taken (octets len (hand_of m))) = ap (λ i. octets i (data_of m₁)) ef ∙ taken_bytes taken fill c len (omega arith) (omega arith) o.merges.hand_fits in
      let hand : hand_of m₁ ≡ hand_of m = region_below 151512 504 150202 1310 g m fits (omega arith) in
      let list : entries_of m₁ ≡ entries_of m = region_above 151512 504 152016 504 g m fits el (omega arith) in
      let ring : ring_of m₁ ≡ ring_of m = region_below 151512 504 147682 2016 g m fits (omega arith) in
      let lists : list_of m₁ ≡ list_of m = region_below 151512 504 149698 504 g m fits (omega arith) in
      more _ _ record {
        keeps = keeps_within n pages h j MergingPhase (took_turn k c).control m 151512 504 g record { long = o.keeps.long; base_is = o.keeps.base_is; manifest_is = o.keeps.manifest_is; holds = o.keeps.holds } (omega arith) (omega arith) el;
        merges = record {
          table_rest = o.merges.table_rest;
          given = o.merges.given;
          walking = subst (λ r. Walking (extent_of j.list) j.before h.safe k.merging.cursor r (list_of m₁) o.merges.table_rest) (sym ring)
              (subst (λ r. Walking (extent_of j.list) j.before h.safe k.merging.cursor (ring_of m) r o.merges.table_rest) (sym lists) o.merges.walking);
          table_fit = o.merges.table_fit;
          walked = o.merges.walked;
          owes = subst (λ y. Owes (new_stream n pages h j) (new_entries n pages h j) (took k.merging.writer c) y (octets len (hand_of m₁)) (octets k.merging.writer.positions.fill (entries_of m₁)) o.merges.given (merge (drop k.merging.walked (sort j.fresh)) o.merges.table_rest)) (sym page)
              (subst (λ y. Owes (new_stream n pages h j) (new_entries n pages h j) (took k.merging.writer c) (octets fill (data_of m) ++ take c (drop taken (octets len (hand_of m)))) (octets len y) (octets k.merging.writer.positions.fill (entries_of m₁)) o.merges.given (merge (drop k.merging.walked (sort j.fresh)) o.merges.table_rest)) (sym hand)
              (subst (λ y. Owes (new_stream n pages h j) (new_entries n pages h j) (took k.merging.writer c) (octets fill (data_of m) ++ take c (drop taken (octets len (hand_of m)))) (octets len (hand_of m)) (octets k.merging.writer.positions.fill y) o.merges.given (merge (drop k.merging.walked (sort j.fresh)) o.merges.table_rest)) (sym list) owes));
          staged = staged_same n pages h j m m₁ k.merging.writer.block.count o.merges.given (region_below 151512 504 147520 162 g m fits (omega arith)) o.merges.staged;
          listed = o.merges.listed;
          hand_fits = o.merges.hand_fits;
          waiting = o.merges.waiting;
          small_cursor = o.merges.small_cursor;
          small_writer = small_took k.merging.writer o.merges.small_writer c;
        };
      }
      (go (ltb (wrap (taken + c)) len)) record { puts = refl; lists = refl; listed = refl; read = refl; waiting = refl }
    where
      go : (b : Bool) → 2 * (504 - wrap (k.merging.writer.stream.fill + min (504 - k.merging.writer.stream.fill) (k.merging.writer.hand.len - k.merging.writer.hand.taken))) + pick b 0 1 < rounds_left n pages h j k.merging
      go true = rw (lt-ltb k.merging.writer.hand.taken k.merging.writer.hand.len y) (omega arith)
      go false = rw (lt-ltb k.merging.writer.hand.taken k.merging.writer.hand.len y) (omega arith)
