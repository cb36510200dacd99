-- Pages while a flush works: whatever a stop leaves, the old table stands; and what was put is read back. All reasoning about stops of a flush is here.
use Rattle.std.proofs.Common.{◌≡◌, ℕ, zero, suc, ◌+◌, ◌*◌, ◌<◌, ◌≤◌, Bool, true, false, eqb, ltb, List, [], ◌∷◌, ◌++◌, length, take, drop, sym, refl, ap, ◌∙◌, subst, inr, arith, length-append, length-drop, length-take, ltb-false, ltb-true, lt-ltb, eq-eqb, eqb-true, le-leb}
use borrow.Author.Tests.{eqb-false}
use Rattle.value.specs.Versions.{every, Version, weight}
use Rattle.value.specs.Numbers.{is_byte, all_bytes}
use Rattle.value.specs.Encoding.{in_limits, fits}
use Rattle.value.specs.Sorted.{sort}
use Rattle.value.proofs.TestLaws.{and_left_of, and_right_of, every_append}
use Rattle.value.proofs.NumberLaws.{all_bytes_drop}
use Rattle.value.proofs.SortLaws.{sort_weighs, sort_every}
use Rattle.value.proofs.ListLaws.{fits_in_limits}
use Rattle.table.specs.Device.{Device, Page, Write, page_at, set_page, read_page, flushed, all_written, left, half, a_page}
use Rattle.table.specs.Layout.{blocks, table_stream, table_entries}
use Rattle.table.specs.Sizes.{page_count, position_pages, most_pages}
use Rattle.table.specs.Stream.{page_of}
use Rattle.table.proofs.DeviceLaws.{touched, length_set_page, page_set_here, page_set_else, length_written, length_left, written_append}
use Rattle.table.proofs.SizeLaws.{table_fits}
use Rattle.manifest.specs.Places.{half_pages, half_start, half_end, other, InHalf, lies_in, in_half}
use Rattle.manifest.proofs.CommitLaws.{free_half_apart}
use Rattle.manifest.proofs.PlaceLaws.{halves_apart}
use Rattle.store.specs.House.{House}
use Rattle.store.specs.Promise.{queued}
use Rattle.flushing_store.proofs.StoredLaws.{AllPages, Stored, stored_same, page_long, page_bytes}
use Rattle.flushing_store.proofs.FlushAccount.{Job, new_stream, new_entries, start_page, data_page, Working, Written}

-- ALL PAGES STAY PAGES
pages_set : (ps : List Page) (k : ℕ) (p : Page) → AllPages ps → a_page p ≡ true → AllPages (set_page ps k p)
pages_set ps k p a h i l = go (eqb k i) refl
  where
    long : i < length ps
    long = omega (arith, length_set_page ps k p)

    go : (b : Bool) → eqb k i ≡ b → a_page (page_at (set_page ps k p) i) ≡ true
    go true e = ap a_page (subst (λ x. page_at (set_page ps k p) x ≡ p) (eqb-true k i e) (page_set_here ps k p (omega (arith, eqb-true k i e, long)))) ∙ h
    go false e = ap a_page (page_set_else ps k p i (eqb-false k i e)) ∙ a i long

all_bytes_take : (n : ℕ) (bs : List ℕ) → all_bytes bs ≡ true → all_bytes (take n bs) ≡ true
unfolding every
all_bytes_take zero bs h = refl
all_bytes_take (suc n) [] h = refl
all_bytes_take (suc n) (b ∷ bs) h = rw (and_left_of (is_byte b) (all_bytes bs) h) (all_bytes_take n bs (and_right_of (is_byte b) (all_bytes bs) h))

half_page : (p q : Page) → a_page p ≡ true → a_page q ≡ true → a_page (half p q) ≡ true
unfolding half
half_page p q h g =
    let l : length (take 256 p ++ drop 256 q) ≡ 512 = simp (length-append, length-take, length-drop) (omega (arith, page_long p h, page_long q g)) in
    rw (eq-eqb (length (take 256 p ++ drop 256 q)) 512 l) (every_append is_byte (take 256 p) (drop 256 q) (all_bytes_take 256 p (page_bytes p h)) (all_bytes_drop 256 q (page_bytes q g)))

abbrev pub whole_write : Write → Bool
whole_write w = a_page w.page

pub pages_written : (ps : List Page) (qs : List Write) → AllPages ps → every whole_write qs ≡ true → AllPages (all_written ps qs)
unfolding all_written every
pages_written ps [] a h = a
pages_written ps (w ∷ ws) a h =
    pages_written (set_page ps w.at w.page) ws (pages_set ps w.at w.page a (and_left_of (whole_write w) (every whole_write ws) h)) (and_right_of (whole_write w) (every whole_write ws) h)

page_at_none : (ps : List Page) (k : ℕ) (p : Page) → length ps ≤ k → set_page ps k p ≡ ps
unfolding set_page
page_at_none [] k p h = refl
page_at_none (q ∷ qs) zero p h = absurd (omega arith)
page_at_none (q ∷ qs) (suc k) p h = ap (λ x. q ∷ x) (page_at_none qs k p (omega arith))

pub pages_left : (ps : List Page) (qs : List Write) (cs : List ℕ) → AllPages ps → every whole_write qs ≡ true → AllPages (left ps qs cs)
unfolding left every
pages_left ps [] cs a h = a
pages_left ps (w ∷ ws) [] a h = a
pages_left ps (w ∷ ws) (c ∷ cs) a h = pages_left (touched ps w.at w.page (eqb c 1) (eqb c 2)) ws cs (go (eqb c 1) (eqb c 2)) (and_right_of (whole_write w) (every whole_write ws) h)
  where
    one : a_page w.page ≡ true
    one = and_left_of (whole_write w) (every whole_write ws) h

    torn : (b : Bool) → ltb w.at (length ps) ≡ b → AllPages (set_page ps w.at (half w.page (page_at ps w.at)))
    torn true e = pages_set ps w.at (half w.page (page_at ps w.at)) a (half_page w.page (page_at ps w.at) one (a w.at (omega (arith, ltb-true w.at (length ps) e))))
    torn false e = subst AllPages (sym (page_at_none ps w.at (half w.page (page_at ps w.at)) (omega (arith, ltb-false w.at (length ps) e)))) a

    go : (x y : Bool) → AllPages (touched ps w.at w.page x y)
    go true y = pages_set ps w.at w.page a one
    go false true = torn (ltb w.at (length ps)) refl
    go false false = a

-- THERE IS ROOM in the free half for the new table, with its positions
module _ (pages : ℕ) (vs : List Version) (many : 64 ≤ pages) (room : weight vs ≤ 128 * pages) (fit : every fits vs ≡ true) where
  limits : every in_limits (sort vs) ≡ true
  limits = sort_every in_limits vs ∙ fits_in_limits vs fit

  weighs : weight (sort vs) ≡ weight vs
  weighs = (sort_weighs vs).0

  pub entries_long : length (table_entries (sort vs)) ≡ 8 * length (blocks (sort vs))
  entries_long = (table_fits (sort vs) limits).0

  pub positions_fit : page_count (length (table_entries (sort vs))) ≤ position_pages (weight vs)
  positions_fit =
      let (e, b, s) = table_fits (sort vs) limits in
      omega (arith, e, b, weighs)

  pub table_fits_half : position_pages (weight vs) + page_count (length (table_stream (sort vs))) ≤ half_pages pages
  table_fits_half =
      let (e, b, s) = table_fits (sort vs) limits in
      let s₁ : position_pages (weight vs) + page_count (length (table_stream (sort vs))) ≤ most_pages (weight vs) = subst (λ x. position_pages x + page_count (length (table_stream (sort vs))) ≤ most_pages x) weighs s in
      omega (arith, s₁)

module _ (n pages : ℕ) (h : House) (j : Job n pages h) where
  -- A STOP, A SETTLE, A PUT, A READ
  same_sized : (d : Device) → Working n pages h j d → length d.pages ≡ length j.before
  same_sized d o = o.sized ∙ sym j.stored.sized

  pub working_stops : (d : Device) → Working n pages h j d → (cs : List ℕ) → Stored pages h.safe j.list (left d.pages d.queue cs)
  working_stops d o cs =
      stored_same pages h.safe j.list j.before (left d.pages d.queue cs) j.stored (length_left d.pages d.queue cs ∙ same_sized d o)
      (λ k x. free_half_apart.kept_left pages j.list.layout.half d.pages d.queue cs k o.waits x ∙ o.same k x)
      (pages_left d.pages d.queue cs o.all_pages o.whole_writes)

  pub working_settled : (d : Device) → Working n pages h j d → Working n pages h j (flushed d)
  unfolding in_half every
  working_settled d o = record {
    sized = length_written d.pages d.queue ∙ o.sized;
    same = λ k x. free_half_apart.kept_settled pages j.list.layout.half d.pages d.queue k o.waits x ∙ o.same k x;
    waits = refl;
    all_pages = pages_written d.pages d.queue o.all_pages o.whole_writes;
    whole_writes = refl;
  }

  pub working_put : (d : Device) (k : ℕ) (p : Page) → Working n pages h j d → InHalf pages (other j.list.layout.half) k → a_page p ≡ true → Working n pages h j (queued d k p)
  unfolding in_half every
  working_put d k p o x a = record {
    sized = o.sized;
    same = o.same;
    waits = every_append (lies_in pages (other j.list.layout.half)) d.queue (record { at = k; page = p } ∷ []) o.waits
        (rw (le-leb (half_start pages (other j.list.layout.half)) k x.from, lt-ltb k (half_end pages (other j.list.layout.half)) x.below) refl);
    all_pages = o.all_pages;
    whole_writes = every_append whole_write d.queue (record { at = k; page = p } ∷ []) o.whole_writes (rw a refl);
  }

  pub working_read : (d : Device) (k : ℕ) → Working n pages h j d → InHalf pages j.list.layout.half k → read_page d k ≡ page_at j.before k
  working_read d k o x = free_half_apart.kept_settled pages j.list.layout.half d.pages d.queue k o.waits (inr x) ∙ o.same k (inr x)

  -- WHAT WAS PUT is read back
  read_queued : (d : Device) (k : ℕ) (p : Page) (i : ℕ) → (k ≡ i → ⊥) → read_page (queued d k p) i ≡ read_page d i
  unfolding all_written
  read_queued d k p i x = ap (λ y. page_at y i) (written_append d.pages d.queue (record { at = k; page = p } ∷ [])) ∙ page_set_else (all_written d.pages d.queue) k p i x

  read_put : (d : Device) (k : ℕ) (p : Page) → k < length d.pages → read_page (queued d k p) k ≡ p
  unfolding all_written
  read_put d k p x =
      ap (λ y. page_at y k) (written_append d.pages d.queue (record { at = k; page = p } ∷ [])) ∙ page_set_here (all_written d.pages d.queue) k p (omega (arith, length_written d.pages d.queue))

  pub written_settled : (lists datas : ℕ) (d : Device) → Written n pages h j lists datas d → Written n pages h j lists datas (flushed d)
  unfolding all_written
  written_settled lists datas d o = record { entries = o.entries; stream = o.stream }

  -- where the new table's pages are
  module _ (fit : every fits h.versions ≡ true) where
    room : position_pages (weight h.versions) + page_count (length (table_stream (sort h.versions))) ≤ half_pages pages
    room = table_fits_half pages h.versions j.stored.many j.room fit

    lists_fit : page_count (length (table_entries (sort h.versions))) ≤ position_pages (weight h.versions)
    lists_fit = positions_fit pages h.versions j.stored.many j.room fit

    pub data_in_half : (i : ℕ) → i < page_count (length (new_stream n pages h j)) → InHalf pages (other j.list.layout.half) (data_page n pages h j + i)
    data_in_half i x = record { from = omega arith; below = omega (arith, room) }

    pub positions_in_half : (i : ℕ) → i < page_count (length (new_entries n pages h j)) → InHalf pages (other j.list.layout.half) (start_page n pages h j + i)
    positions_in_half i x = record { from = omega arith; below = omega (arith, room, lists_fit) }

    pub in_half_there : (k : ℕ) → InHalf pages (other j.list.layout.half) k → k < pages
    in_half_there k x = omega (arith, x.below, halves_apart.within pages (other j.list.layout.half) j.stored.many j.stored.few)

    pub written_data : (lists datas : ℕ) (d : Device) → Working n pages h j d → Written n pages h j lists datas d → lists ≤ page_count (length (new_entries n pages h j)) → datas < page_count (length (new_stream n pages h j)) →
        (p : Page) → page_of (new_stream n pages h j) datas ≡ p → Written n pages h j lists (suc datas) (queued d (data_page n pages h j + datas) p)
    written_data lists datas d o wr le lt p e = record {
      entries = λ i x. read_queued d (data_page n pages h j + datas) p (start_page n pages h j + i) (λ z. omega (arith, lists_fit)) ∙ wr.entries i x;
      stream = λ i x. go i x (eqb i datas) refl;
    }
      where
        go : (i : ℕ) → i < suc datas → (b : Bool) → eqb i datas ≡ b → read_page (queued d (data_page n pages h j + datas) p) (data_page n pages h j + i) ≡ page_of (new_stream n pages h j) i
        go i x true q =
            let z : i ≡ datas = eqb-true i datas q in
            ap (λ y. read_page (queued d (data_page n pages h j + datas) p) (data_page n pages h j + y)) z
            ∙ read_put d (data_page n pages h j + datas) p (omega (arith, o.sized, in_half_there (data_page n pages h j + datas) (data_in_half datas lt))) ∙ sym e ∙ ap (page_of (new_stream n pages h j)) (sym z)
        go i x false q =
            let z : i ≡ datas → ⊥ = eqb-false i datas q in
            read_queued d (data_page n pages h j + datas) p (data_page n pages h j + i) (λ y. omega (arith, z)) ∙ wr.stream i (omega (arith, z))

    pub written_positions : (lists datas : ℕ) (d : Device) → Working n pages h j d → Written n pages h j lists datas d → lists < page_count (length (new_entries n pages h j)) →
        (p : Page) → page_of (new_entries n pages h j) lists ≡ p → Written n pages h j (suc lists) datas (queued d (start_page n pages h j + lists) p)
    written_positions lists datas d o wr lt p e = record {
      entries = λ i x. go i x (eqb i lists) refl;
      stream = λ i x. read_queued d (start_page n pages h j + lists) p (data_page n pages h j + i) (λ z. omega (arith, lists_fit)) ∙ wr.stream i x;
    }
      where
        go : (i : ℕ) → i < suc lists → (b : Bool) → eqb i lists ≡ b → read_page (queued d (start_page n pages h j + lists) p) (start_page n pages h j + i) ≡ page_of (new_entries n pages h j) i
        go i x true q =
            let z : i ≡ lists = eqb-true i lists q in
            ap (λ y. read_page (queued d (start_page n pages h j + lists) p) (start_page n pages h j + y)) z
            ∙ read_put d (start_page n pages h j + lists) p (omega (arith, o.sized, in_half_there (start_page n pages h j + lists) (positions_in_half lists lt))) ∙ sym e ∙ ap (page_of (new_entries n pages h j)) (sym z)
        go i x false q =
            let z : i ≡ lists → ⊥ = eqb-false i lists q in
            read_queued d (start_page n pages h j + lists) p (start_page n pages h j + i) (λ y. omega (arith, z)) ∙ wr.entries i (omega (arith, z))
