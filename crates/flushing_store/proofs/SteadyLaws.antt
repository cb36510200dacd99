-- Memory stays as long as it is, and its numbers small, whatever it holds and whatever is said.
use Rattle.std.proofs.Common.{◌≡◌, ℕ, zero, suc, ◌+◌, ◌*◌, ◌%◌, ◌<◌, ◌≤◌, Bool, true, false, ◌&&◌, eqb, ltb, leb, List, [], ◌++◌, length, get_or, drop, replicate, Some, None, Option, sym, refl, ◌∙◌, arith, eqb-true}
use Rattle.std.proofs.lemmas.Bool.{leb-true, ltb-true}
use Rattle.value.specs.Versions.{pick, every, Version, version}
use Rattle.value.specs.Numbers.{put_at}
use Rattle.value.specs.Encoding.{in_limits, encoded_length, key_at, value_at}
use Rattle.value.specs.declared.version.Place.{Place}
use Rattle.value.proofs.TestLaws.{and_left_of, and_right_of}
use Rattle.memtable.specs.Arena.{appended, gone_at, moment_at}
use Rattle.memtable.specs.Index.{entered}
use Rattle.memtable.specs.Holds.{small}
use Rattle.memtable.specs.declared.memtable.Memtable.{Memtable}
use Rattle.memtable.proofs.SteadyLaws.{append_keeps, enter_keeps}
use Rattle.table.specs.Row.{octets}
use Rattle.table.specs.Stream.{payload}
use Rattle.table.specs.Load.{wanted as page_wanted, placed, placed_at}
use Rattle.table.specs.Lookup.{begun, with_page, loaded}
use Rattle.table.specs.Layout.{entry}
use Rattle.table.specs.Writing.{begins, due_of}
use Rattle.table.specs.Cursor.{wanted, list_with, ring_with, head_place}
use Rattle.table.specs.declared.cursor.Want.{Want}
use Rattle.table.specs.declared.cursor.Want.TheVariants.{Positions as WantsPositions, Data as WantsData, Head, End}
use Rattle.table.specs.declared.lookup.Lookup.{Lookup}
use Rattle.table.specs.declared.writer.Writer.{Writer}
use Rattle.table.specs.declared.writer.Due.{Due}
use Rattle.table.specs.declared.writer.Due.TheVariants.{Data as DataDue, Positions as PositionsDue, Take, Next}
use Rattle.table.proofs.RowLaws.{length_octets}
use Rattle.table.proofs.StreamLaws.{length_payload}
use Rattle.store.specs.House.{Command, write, erase, get, range, first_key, last_key, count, flush, compact, a_key}
use Rattle.store.specs.Promise.{Event, on, said, page, next, Step, done, tells, refused, all_small, Steady}
use Rattle.store.specs.Acts.{stepped}
use Rattle.flushing_store.specs.Control.{memory_words, wraps, base_words, manifest_words, lookup_words, merging_words, control_of, put_control, to_phase, stage_region, list_of}
use Rattle.store.specs.Regions.{wrap, region, within, arena_of, in_arena, in_index, sought}
use Rattle.flushing_store.specs.Octets.{put_octets}
use Rattle.flushing_store.specs.Stage.{staged, staged_version}
use Rattle.flushing_store.specs.Look.{extent_of, page_in, asked_for, asked}
use Rattle.store.specs.Shown.{row_at, row_of}
use Rattle.flushing_store.specs.Power.{powered, first_listed, second_listed}
use Rattle.flushing_store.specs.Write.{put_in, accepted, sought_below, begun_write, wrote, finished, written_by, wrote_by, wrote_on}
use Rattle.store.specs.Checks.{checked, key_size, value_size, proper_moment, not_earlier, unwritten, roomy, within_pages}
use Rattle.flushing_store.specs.Get.{begun_get, got_below, told_of, got, shown_by, got_by, got_on}
use Rattle.flushing_store.specs.Give.{bound_after, brought, ended_block, in_hand, with_entry, given_memory}
use Rattle.flushing_store.specs.Round.{Went, took_bytes, memory_head, leads, memory_turn, table_turn, closed_turn, heads_turn, head_turn, block_in, block_turn, wanted_turn, next_turn, due_turn, settled_turn, round, positions_turn}
use Rattle.flushing_store.specs.Flush.{spun_from, spun, performed, merged_on, begun_flush, flushed_step, page_taken, page_merged, last_step, listed_step, committed_step}
use Rattle.flushing_store.specs.Own.{went_on, paged_by, heard, turned, blank_memory, own}
use Rattle.flushing_store.specs.declared.look.Looked.{Looked}
use Rattle.flushing_store.specs.declared.look.Looked.TheVariants.{On, Found, Missing}
use Rattle.flushing_store.specs.declared.control.Phase.{Phase}
use Rattle.flushing_store.specs.declared.control.Phase.TheVariants.{Idle, Shown, FirstList, AfterWhole, AfterTorn, Getting, Writing, Merging, Closed, Placed, Settled, Listed, Committed}
use Rattle.flushing_store.specs.declared.control.Control.{Control}
use Rattle.flushing_store.specs.declared.turn.Deed.{Deed}
use Rattle.flushing_store.specs.declared.turn.Deed.TheVariants.{Fetch, Data, Positions, Settle}
use Rattle.flushing_store.proofs.WithinLaws.{length_wraps, length_put_at, small_take, small_append, small_getD, small_cons, small_zeros, small_wraps, small_put_at, small_region, small_within}
use Rattle.store.proofs.RegionLaws.{length_within, length_region}
use Rattle.flushing_store.proofs.StepLaws.{start_long}
use Rattle.std.specs.Prelude.{is_some}

-- PARTS of memory: what is put keeps a part's length, and its numbers small
as_small : (m : List ℕ) → all_small m ≡ true → small m ≡ true
unfolding all_small small
as_small m a = a

from_small : (m : List ℕ) → small m ≡ true → all_small m ≡ true
unfolding all_small small
from_small m a = a

small_octets : (n : ℕ) (ws : List ℕ) → all_small (octets n ws) ≡ true
unfolding octets all_small every
small_octets zero ws = refl
small_octets (suc n) ws = small_cons (get_or ws 0 0 % 256) (octets n (drop 1 ws)) (omega arith) (small_octets n (drop 1 ws))

small_payload : (p : List ℕ) → all_small p ≡ true → all_small (payload p) ≡ true
unfolding payload
small_payload p a = small_take 504 (p ++ replicate 504 0) (small_append p (replicate 504 0) a (small_zeros 504))

record Part (row row₁ : List ℕ) : Type 0 where
  long : length row₁ ≡ length row
  kept : all_small row ≡ true → all_small row₁ ≡ true

same_part : (row : List ℕ) → Part row row
same_part row = record { long = refl; kept = λ a. a }

put_part : (at : ℕ) (ys row : List ℕ) → at + length ys ≤ length row → all_small ys ≡ true → Part row (put_at at ys row)
put_part at ys row h a = record { long = length_put_at at ys row h; kept = small_put_at at ys row a }

octets_part : (at : ℕ) (bs row : List ℕ) → Part row (put_octets at bs row)
unfolding put_octets
octets_part at bs row = go (leb (at + length bs) (length row)) refl
  where
    go : (b : Bool) → leb (at + length bs) (length row) ≡ b → Part row (pick b (put_at at (octets (length bs) bs) row) row)
    go true e = put_part at (octets (length bs) bs) row (omega (arith, length_octets (length bs) bs, leb-true (at + length bs) (length row) e)) (small_octets (length bs) bs)
    go false e = same_part row

placed_part : (n : ℕ) (p row : List ℕ) → all_small p ≡ true → Part row (placed n p row)
unfolding placed_at
placed_part n p row a = go (ltb n 4 && leb 2016 (length row)) refl
  where
    go : (b : Bool) → (ltb n 4 && leb 2016 (length row)) ≡ b → Part row (pick b (put_at (504 * n) (payload p) row) row)
    go true e =
        put_part (504 * n) (payload p) row
        (omega (arith, length_payload p, ltb-true n 4 (and_left_of (ltb n 4) (leb 2016 (length row)) e), leb-true 2016 (length row) (and_right_of (ltb n 4) (leb 2016 (length row)) e))) (small_payload p a)
    go false e = same_part row

list_part : (p row : List ℕ) → all_small p ≡ true → Part row (list_with p row)
unfolding list_with
list_part p row a = go (eqb (length row) 504) refl
  where
    go : (b : Bool) → eqb (length row) 504 ≡ b → Part row (pick b (payload p) row)
    go true e = record { long = length_payload p ∙ sym (eqb-true (length row) 504 e); kept = λ z. small_payload p a }
    go false e = same_part row

append_part : (row : List ℕ) (used : ℕ) (v : Version) → Part row (appended row used v)
append_part row used v = record { long = (append_keeps row used v).0; kept = λ a. from_small (appended row used v) ((append_keeps row used v).1 (as_small row a)) }

-- MEMORY, of the machine's own length: as it was at first, and as it is
record Kept (m₀ m : List ℕ) : Type 0 where
  long : length m ≡ memory_words
  kept : all_small m₀ ≡ true → all_small m ≡ true

by_pick : {A : Type 0} (P : A → Type 0) (b : Bool) (x y : A) → P x → P y → P (pick b x y)
by_pick P true x y p q = p
by_pick P false x y p q = q

module _ (m₀ : List ℕ) where
  abbrev Keeps : Step → Type 0
  Keeps s = Kept m₀ s.memory

  abbrev Goes : Went → Type 0
  Goes t = Kept m₀ t.memory

  within_kept : (a n : ℕ) (f : List ℕ → List ℕ) (m : List ℕ) → a + n ≤ memory_words → Kept m₀ m → length (f (region a n m)) ≡ n → (all_small m₀ ≡ true → all_small (f (region a n m)) ≡ true) →
      Kept m₀ (within a n f m)
  within_kept a n f m h k l s = record {
    long = length_within a n f m (omega (arith, k.long)) l ∙ k.long;
    kept = λ z. small_within a n f m (k.kept z) (s z);
  }

  part_kept : (a n : ℕ) (f : List ℕ → List ℕ) (m : List ℕ) → a + n ≤ memory_words → Kept m₀ m → Part (region a n m) (f (region a n m)) → Kept m₀ (within a n f m)
  part_kept a n f m h k p =
      within_kept a n f m h k (p.long ∙ length_region a n m (omega (arith, k.long))) (λ z. p.kept (small_region a n m (k.kept z)))

  wraps_kept : (a n : ℕ) (ws m : List ℕ) → a + n ≤ memory_words → length ws ≡ n → Kept m₀ m → Kept m₀ (within a n (λ x. wraps ws) m)
  wraps_kept a n ws m h l k = within_kept a n (λ x. wraps ws) m h k (length_wraps ws ∙ l) (λ z. small_wraps ws)

  put_kept : (m : List ℕ) (k : Control) → Kept m₀ m → Kept m₀ (put_control m k)
  unfolding put_control
  put_kept m k h =
      wraps_kept 33 15 (merging_words k.merging) _ (omega arith) refl (wraps_kept 21 12 (lookup_words k.lookup) _ (omega arith) refl
      (wraps_kept 6 15 (manifest_words k.manifest) _ (omega arith) refl (wraps_kept 0 6 (base_words k.base) m (omega arith) refl h)))

  staged_kept : (v : Version) (m : List ℕ) → Kept m₀ m → Kept m₀ (staged v m)
  unfolding staged
  staged_kept v m h = part_kept 147520 162 (λ x. appended x 0 v) m (omega arith) h (append_part (region 147520 162 m) 0 v)

  page_in_kept : (l : Lookup) (p m : List ℕ) → all_small p ≡ true → Kept m₀ m → Kept m₀ (page_in l p m)
  unfolding page_in
  page_in_kept l p m a h = part_kept 147682 2016 (placed l.load.got p) m (omega arith) h (placed_part l.load.got p (region 147682 2016 m) a)

  -- THE LOOKUPS
  asked_kept : (k : Control) (m : List ℕ) (l : Lookup) → Kept m₀ m → Keeps (asked k m l)
  unfolding asked
  asked_kept k m l h = go (page_wanted l.load)
    where
      go : (o : Option ℕ) → Keeps (asked_for k m l o)
      go None = h
      go (Some q) = put_kept m _ h

  -- WRITING
  checked_kept : {A : Type 0} (o : Option A) (r : ℕ) (m : List ℕ) (f : A → Step) → Kept m₀ m → ((x : A) → Keeps (f x)) → Keeps (checked o r m f)
  checked_kept None r m f h g = h
  checked_kept (Some x) r m f h g = g x

  module _ (k : Control) (u : all_small m₀ ≡ true → k.base.table.used < 18446744073709551616) where
    put_in_kept : (m : List ℕ) (place : ℕ) (t : Memtable) (v : Version) → Kept m₀ m → Kept m₀ (put_in k place t v m)
    unfolding put_in in_arena in_index
    put_in_kept m place t v h =
        let a : Kept m₀ (in_arena k.base.table.used v m) =
        part_kept 16448 131072 (λ x. appended x k.base.table.used v) m (omega arith) h (append_part (region 16448 131072 m) k.base.table.used v) in
        let m₁ = in_arena k.base.table.used v m in
        let e = enter_keeps (region 64 16384 m₁) k.base.table.versions place k.base.table.used in
        let i : Kept m₀ (in_index k.base.table place m₁) =
        within_kept 64 16384 (λ x. entered x k.base.table.versions place k.base.table.used) m₁ (omega arith) a (e.0 ∙ length_region 64 16384 m₁ (omega (arith, a.long)))
        (λ z. from_small _ (e.1 (u z) (as_small (region 64 16384 m₁) (small_region 64 16384 m₁ (a.kept z))))) in
        put_kept _ _ i

    accepted_kept : (m : List ℕ) (v : Version) → Kept m₀ m → Keeps (accepted k m v)
    unfolding accepted
    accepted_kept m v h =
        checked_kept (unwritten k.base.table m v.key v.moment) 3 m _ h (λ place. checked_kept (roomy k.base.table (length v.key) (length v.value)) 7 m _ h (λ t.
        checked_kept (within_pages k.base.pages (wrap (k.manifest.weight.all + t.weight))) 8 m _ h (λ w. put_in_kept m place t v h)))

    begun_kept : (m : List ℕ) (v : Version) (o : Option Lookup) → Kept m₀ m → Keeps (begun_write k m v o)
    begun_kept m v None h = accepted_kept m v h
    begun_kept m v (Some l) h = asked_kept (to_phase k Writing) (staged v m) l (staged_kept v m h)

    wrote_kept : (m : List ℕ) (v : Version) → Kept m₀ m → Keeps (wrote k m v)
    unfolding wrote
    wrote_kept m v h =
        checked_kept (key_size v.key) 6 m _ h (λ kl. checked_kept (value_size v.value) 6 m _ h (λ vl. checked_kept (proper_moment v.moment) 6 m _ h (λ s.
        checked_kept (not_earlier k.base.last s) 3 m _ h (λ s₁. begun_kept m (version v.key s₁ v.gone v.value) (sought_below k s₁) h))))

  module _ (k : Control) (u : all_small m₀ ≡ true → k.base.table.used < 18446744073709551616) where
    finished_kept : (m : List ℕ) → Kept m₀ m → Keeps (finished k m)
    unfolding finished
    finished_kept m h = accepted_kept (to_phase k Idle) u (put_control m (to_phase k Idle)) (staged_version (put_control m (to_phase k Idle))) (put_kept m (to_phase k Idle) h)

    written_kept : (m : List ℕ) (o : Looked) → Kept m₀ m → Keeps (written_by k m o)
    unfolding written_by
    written_kept m (On l) h = asked_kept k m l h
    written_kept m Missing h = finished_kept m h
    written_kept m (Found p) h =
        by_pick Keeps (eqb p.moment (moment_at (stage_region m) 0)) (stepped (put_control m (to_phase k Idle)) (refused 3)) (finished k m) (put_kept m (to_phase k Idle) h) (finished_kept m h)

    wrote_by_kept : (m : List ℕ) (l : Lookup) → Kept m₀ m → Keeps (wrote_by k m l)
    unfolding wrote_by
    wrote_by_kept m l h = written_kept m _ h

    wrote_on_kept : (m p : List ℕ) → all_small p ≡ true → Kept m₀ m → Keeps (wrote_on k m p)
    unfolding wrote_on
    wrote_on_kept m p a h =
        let h₁ = page_in_kept k.lookup p m a h in
        by_pick Keeps (ltb (with_page k.lookup).load.got k.lookup.load.span.pages) (asked k (page_in k.lookup p m) (with_page k.lookup)) (wrote_by k (page_in k.lookup p m) (with_page k.lookup))
        (asked_kept k (page_in k.lookup p m) (with_page k.lookup) h₁) (wrote_by_kept (page_in k.lookup p m) (with_page k.lookup) h₁)

  -- GETTING
  begun_get_kept : (k : Control) (m key : List ℕ) (s : ℕ) (o : Option Lookup) → Kept m₀ m → Keeps (begun_get k m key s o)
  begun_get_kept k m key s None h = h
  begun_get_kept k m key s (Some l) h = asked_kept (to_phase k Getting) (staged (version key s false []) m) l (staged_kept (version key s false []) m h)

  below_kept : (k : Control) (m key : List ℕ) (s : ℕ) → Kept m₀ m → Keeps (got_below k m key s)
  unfolding got_below
  below_kept k m key s h = by_pick Keeps (a_key key) (begun_get k m key s (begun (extent_of k.manifest))) (stepped m done) (begun_get_kept k m key s (begun (extent_of k.manifest)) h) h

  told_kept : (k : Control) (m key : List ℕ) (s : ℕ) (o : Option ℕ) → Kept m₀ m → Keeps (told_of k m key s o)
  unfolding told_of
  told_kept k m key s None h = below_kept k m key s h
  told_kept k m key s (Some p) h =
      by_pick Keeps (gone_at (arena_of m) p) (stepped m done) (stepped (put_control m (to_phase k Shown)) (tells (row_at (arena_of m) p))) h (put_kept m (to_phase k Shown) h)

  shown_kept : (k : Control) (m : List ℕ) (l : Lookup) (row : List ℕ) (o : Looked) → Kept m₀ m → Keeps (shown_by k m l row o)
  unfolding shown_by
  shown_kept k m l row (On n) h = asked_kept k m n h
  shown_kept k m l row Missing h = put_kept m (to_phase k Idle) h
  shown_kept k m l row (Found p) h =
      by_pick Keeps p.gone (stepped (put_control m (to_phase k Idle)) done) (stepped (put_control m (to_phase k Shown)) (tells (row_of (key_at (loaded l row) p) (value_at (loaded l row) p))))
      (put_kept m (to_phase k Idle) h) (put_kept m (to_phase k Shown) h)

  got_by_kept : (k : Control) (m : List ℕ) (l : Lookup) → Kept m₀ m → Keeps (got_by k m l)
  unfolding got_by
  got_by_kept k m l h = shown_kept k m l _ _ h

  got_on_kept : (k : Control) (m p : List ℕ) → all_small p ≡ true → Kept m₀ m → Keeps (got_on k m p)
  unfolding got_on
  got_on_kept k m p a h =
      let h₁ = page_in_kept k.lookup p m a h in
      by_pick Keeps (ltb (with_page k.lookup).load.got k.lookup.load.span.pages) (asked k (page_in k.lookup p m) (with_page k.lookup)) (got_by k (page_in k.lookup p m) (with_page k.lookup))
      (asked_kept k (page_in k.lookup p m) (with_page k.lookup) h₁) (got_by_kept k (page_in k.lookup p m) (with_page k.lookup) h₁)

  -- MERGING
  ended_kept : (w : Writer) (m : List ℕ) → Kept m₀ m → Kept m₀ (ended_block w m)
  unfolding ended_block
  ended_kept w m h =
      by_pick (λ x. Kept m₀ x) (eqb w.block.count 0) m (within 152016 504 (put_octets w.positions.fill (entry w.block.begin w.block.used)) m) h
      (part_kept 152016 504 (put_octets w.positions.fill (entry w.block.begin w.block.used)) m (omega arith) h (octets_part w.positions.fill (entry w.block.begin w.block.used) (region 152016 504 m)))

  in_hand_kept : (bs m : List ℕ) → Kept m₀ m → Kept m₀ (in_hand bs m)
  unfolding in_hand
  in_hand_kept bs m h = part_kept 150202 1310 (put_octets 0 bs) m (omega arith) h (octets_part 0 bs (region 150202 1310 m))

  given_kept : (w : Writer) (v : Version) (m : List ℕ) → Kept m₀ m → Kept m₀ (given_memory w v m)
  unfolding given_memory
  given_kept w v m h =
      let bs = brought (begins w (encoded_length v)) (bound_after w.block.count m v.key) v in
      let h₁ = in_hand_kept bs m h in
      let h₂ = by_pick (λ x. Kept m₀ x) (begins w (encoded_length v)) (ended_block w (in_hand bs m)) (in_hand bs m) (ended_kept w (in_hand bs m) h₁) h₁ in
      by_pick (λ x. Kept m₀ x) (in_limits v) (staged (version v.key v.moment v.gone []) (with_entry (begins w (encoded_length v)) w (in_hand bs m))) m
      (staged_kept (version v.key v.moment v.gone []) (with_entry (begins w (encoded_length v)) w (in_hand bs m)) h₂) h

  took_kept : (taken fill n : ℕ) (m : List ℕ) → Kept m₀ m → Kept m₀ (took_bytes taken fill n m)
  unfolding took_bytes
  took_kept taken fill n m h = part_kept 151512 504 (put_octets fill _) m (omega arith) h (octets_part fill _ (region 151512 504 m))

  memory_kept : (k : Control) (m : List ℕ) (at : ℕ) → Kept m₀ m → Goes (memory_turn k m at)
  unfolding memory_turn
  memory_kept k m at h = given_kept k.merging.writer _ m h

  table_kept : (k : Control) (m block : List ℕ) (p : Place) → Kept m₀ m → Goes (table_turn k m block p)
  unfolding table_turn
  table_kept k m block p h = given_kept k.merging.writer _ m h

  closed_kept : (k : Control) (m : List ℕ) → Kept m₀ m → Goes (closed_turn k m)
  unfolding closed_turn
  closed_kept k m h = ended_kept k.merging.writer m h

  heads_kept : (k : Control) (m block : List ℕ) (a : Option ℕ) (o : Option Place) → Kept m₀ m → Goes (heads_turn k m block a o)
  heads_kept k m block None None h = closed_kept k m h
  heads_kept k m block (Some at) None h = memory_kept k m at h
  heads_kept k m block None (Some p) h = table_kept k m block p h
  heads_kept k m block (Some at) (Some p) h = by_pick Goes (leads m at block p) (memory_turn k m at) (table_turn k m block p) (memory_kept k m at h) (table_kept k m block p h)

  head_kept : (k : Control) (m block : List ℕ) (o : Option Place) → Kept m₀ m → Goes (head_turn k m block o)
  unfolding head_turn
  head_kept k m block o h = heads_kept k m block (memory_head k m) o h

  block_kept : (k : Control) (m : List ℕ) → Kept m₀ m → Goes (block_turn k m)
  unfolding block_turn
  block_kept k m h = head_kept k m (block_in k m) (head_place k.merging.cursor (block_in k m)) h

  wanted_kept : (k : Control) (m : List ℕ) (w : Want) → Kept m₀ m → Goes (wanted_turn k m w)
  wanted_kept k m (WantsPositions q) h = h
  wanted_kept k m (WantsData q) h = h
  wanted_kept k m Head h = block_kept k m h
  wanted_kept k m End h = head_kept k m [] None h

  next_kept : (k : Control) (m : List ℕ) → Kept m₀ m → Goes (next_turn k m)
  unfolding next_turn
  next_kept k m h = wanted_kept k m (wanted k.merging.cursor (extent_of k.manifest) (list_of m)) h

  due_kept : (k : Control) (m : List ℕ) (d : Due) → Kept m₀ m → Goes (due_turn k m d)
  due_kept k m DataDue h = h
  due_kept k m PositionsDue h = h
  due_kept k m (Take n) h = took_kept k.merging.writer.hand.taken k.merging.writer.stream.fill n m h
  due_kept k m Next h = next_kept k m h

  round_kept : (k : Control) (m : List ℕ) → Kept m₀ m → Goes (round k m)
  unfolding round
  round_kept k m h =
      by_pick Goes (leb 254 k.merging.waiting) record { turn = settled_turn k; memory = m } (due_turn k m (due_of k.merging.writer)) h (due_kept k m (due_of k.merging.writer) h)

  spun_kept : (n : ℕ) (t : Went) → Goes t → Goes (spun_from n t)
  unfolding spun_from
  spun_kept zero t h = h
  spun_kept (suc n) t h =
      by_pick Goes (is_some t.turn.deed) t (spun_from n (round t.turn.control t.memory)) h (spun_kept n (round t.turn.control t.memory) (round_kept t.turn.control t.memory h))

  performed_kept : (k : Control) (d : Option Deed) (m : List ℕ) → Kept m₀ m → Keeps (performed k d m)
  unfolding performed
  performed_kept k None m h = put_kept m k h
  performed_kept k (Some (Fetch q)) m h = put_kept m k h
  performed_kept k (Some (Data q n)) m h = put_kept m k h
  performed_kept k (Some (Positions q n)) m h = put_kept m k h
  performed_kept k (Some Settle) m h = put_kept m k h

  merged_kept : (k : Control) (m : List ℕ) → Kept m₀ m → Keeps (merged_on k m)
  unfolding merged_on spun
  merged_kept k m h = performed_kept _ _ _ (spun_kept 1024 _ h)

  flushed_kept : (k : Control) (m : List ℕ) → Kept m₀ m → Keeps (flushed_step k m)
  unfolding flushed_step
  flushed_kept k m h = by_pick Keeps (eqb k.base.table.versions 0) (stepped m done) (merged_on (begun_flush k) m) h (merged_kept (begun_flush k) m h)

  taken_kept : (k : Control) (m p : List ℕ) (w : Want) → all_small p ≡ true → Kept m₀ m → Goes (page_taken k m p w)
  taken_kept k m p (WantsPositions q) a h = part_kept 149698 504 (list_with p) m (omega arith) h (list_part p (region 149698 504 m) a)
  taken_kept k m p (WantsData q) a h = part_kept 147682 2016 (ring_with k.merging.cursor p) m (omega arith) h (placed_part (k.merging.cursor.read % 4) p (region 147682 2016 m) a)
  taken_kept k m p Head a h = h
  taken_kept k m p End a h = h

  page_merged_kept : (k : Control) (m p : List ℕ) → all_small p ≡ true → Kept m₀ m → Goes (page_merged k m p)
  unfolding page_merged
  page_merged_kept k m p a h = taken_kept k m p (wanted k.merging.cursor (extent_of k.manifest) (list_of m)) a h

  -- THE WHOLE STEP
  went_kept : (k : Control) (m : List ℕ) (p : Phase) → Kept m₀ m → Keeps (went_on k m p)
  unfolding went_on last_step listed_step committed_step
  went_kept k m Idle h = h
  went_kept k m Shown h = put_kept m (to_phase k Idle) h
  went_kept k m FirstList h = h
  went_kept k m AfterWhole h = h
  went_kept k m AfterTorn h = h
  went_kept k m Getting h = h
  went_kept k m Writing h = h
  went_kept k m Merging h = merged_kept k m h
  went_kept k m Closed h = performed_kept (positions_turn (to_phase k Placed)).control (positions_turn (to_phase k Placed)).deed m h
  went_kept k m Placed h = put_kept m (to_phase k Settled) h
  went_kept k m Settled h = put_kept m _ h
  went_kept k m Listed h = put_kept m (to_phase k Committed) h
  went_kept k m Committed h = put_kept m _ h

  module _ (k : Control) (u : all_small m₀ ≡ true → k.base.table.used < 18446744073709551616) where
    paged_kept : (m q : List ℕ) (p : Phase) → all_small q ≡ true → Kept m₀ m → Keeps (paged_by k m q p)
    unfolding paged_by first_listed second_listed
    paged_kept m q Idle a h = h
    paged_kept m q Shown a h = h
    paged_kept m q FirstList a h = put_kept m _ h
    paged_kept m q AfterWhole a h = put_kept m _ h
    paged_kept m q AfterTorn a h = put_kept m _ h
    paged_kept m q Getting a h = got_on_kept k m q a h
    paged_kept m q Writing a h = wrote_on_kept k u m q a h
    paged_kept m q Merging a h = merged_kept (page_merged k m q).turn.control (page_merged k m q).memory (page_merged_kept k m q a h)
    paged_kept m q Closed a h = h
    paged_kept m q Placed a h = h
    paged_kept m q Settled a h = h
    paged_kept m q Listed a h = h
    paged_kept m q Committed a h = h

    heard_kept : (m : List ℕ) (c : Command) → Kept m₀ m → Keeps (heard k m c)
    unfolding heard got
    heard_kept m (write key s v) h = wrote_kept k u m (version key s false v) h
    heard_kept m (erase key s) h = wrote_kept k u m (version key s true []) h
    heard_kept m (get key s) h = told_kept k m key s (sought k.base.table m key s) h
    heard_kept m (range a b s) h = h
    heard_kept m (first_key s) h = h
    heard_kept m (last_key s) h = h
    heard_kept m (count s) h = h
    heard_kept m flush h = flushed_kept k m h
    heard_kept m (compact t) h = h

    turned_kept : (m : List ℕ) (ev : Event) → Kept m₀ m → Keeps (turned k m ev)
    unfolding turned powered
    turned_kept m (on n) h = put_kept m _ h
    turned_kept m (said c) h = heard_kept m c h
    turned_kept m (page p) h = paged_kept m (octets 512 p) k.base.phase (small_octets 512 p) h
    turned_kept m next h = went_kept k m k.base.phase h

used_small : (m : List ℕ) → all_small m ≡ true → (control_of m).base.table.used < 18446744073709551616
unfolding control_of
used_small m a = small_getD (region 0 6 m) 4 (small_region 0 6 m a)

step_keeps : (m : List ℕ) (ev : Event) → (length (own.step m ev).memory ≡ length m) × (all_small m ≡ true → all_small (own.step m ev).memory ≡ true)
unfolding own
step_keeps m ev = go (eqb (length m) memory_words) refl
  where
    go : (b : Bool) → eqb (length m) memory_words ≡ b →
        (length (pick b (turned (control_of m) m ev) (stepped m (refused 2))).memory ≡ length m)
        × (all_small m ≡ true → all_small (pick b (turned (control_of m) m ev) (stepped m (refused 2))).memory ≡ true)
    go true e =
        let l = eqb-true (length m) memory_words e in
        let k = turned_kept m (control_of m) (used_small m) m ev record { long = l; kept = λ a. a } in
        (k.long ∙ sym l, k.kept)
    go false e = (refl, λ a. a)

every_same : (f : ℕ → Bool) (n x : ℕ) → f x ≡ true → every f (replicate n x) ≡ true
unfolding every
every_same f zero x h = refl
every_same f (suc n) x h = rw h (every_same f n x h)

start_zero : every (λ m. eqb m 0) own.start ≡ true
unfolding own blank_memory
start_zero = every_same (λ m. eqb m 0) memory_words 0 refl

pub steady : Steady own
unfolding Steady
steady = (omega (arith, start_long), start_zero, step_keeps)
