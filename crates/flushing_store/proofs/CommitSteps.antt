-- The commit of a flush: once the new list is whole on its page, the pages hold every version; until then they hold those that were safe.
use Rattle.std.proofs.Common.{◌≡◌, ℕ, suc, ◌+◌, ◌<◌, ◌≤◌, ◌⊎◌, List, [], ◌∷◌, length, sym, refl, ap, ◌∙◌, subst, inl, inr, ⊎_elim, arith}
use Rattle.value.specs.Versions.{every}
use Rattle.value.specs.Sorted.{sort}
use Rattle.value.proofs.ListLaws.{fits_in_limits}
use Rattle.table.specs.Device.{Page, page_at, all_written, left}
use Rattle.table.specs.Layout.{blocks}
use Rattle.table.specs.Sizes.{page_count, position_pages}
use Rattle.table.proofs.DeviceLaws.{length_written, length_left, written_else, left_else}
use Rattle.table.proofs.StreamLaws.{stream_back}
use Rattle.manifest.specs.Manifest.{Fits}
use Rattle.manifest.specs.Places.{half_start, other, InHalf}
use Rattle.manifest.specs.Commit.{list_write, Committed, Next}
use Rattle.manifest.specs.declared.fields.Half.{Half}
use Rattle.manifest.specs.declared.fields.Half.TheVariants.{First, Second}
use Rattle.manifest.specs.declared.fields.Manifest.{Manifest}
use Rattle.manifest.proofs.CommitLaws.{stop_keeps_list, settled_is_next, list_apart}
use Rattle.manifest.proofs.PageLaws.{page_is}
use Rattle.manifest.proofs.PlaceLaws.{halves_apart}
use Rattle.store.specs.House.{House}
use Rattle.store.specs.Account.{most_commands}
use Rattle.flushing_store.specs.Control.{base, control}
use Rattle.store.specs.Regions.{wrap}
use Rattle.flushing_store.specs.Target.{new_start, new_data, next_manifest}
use Rattle.flushing_store.specs.declared.control.Phase.{Phase}
use Rattle.flushing_store.specs.declared.control.Control.{Control}
use Rattle.flushing_store.proofs.StoredLaws.{AllPages, Stored, stored_with, stored_same}
use Rattle.flushing_store.proofs.FlushAccount.{Job, new_stream, new_entries, start_page, data_page, Working, KeepsMemory, Ended}
use Rattle.flushing_store.proofs.WorkLaws.{pages_written, pages_left, entries_long, positions_fit, data_in_half, positions_in_half}
use Rattle.flushing_store.proofs.RoundAccount.{all_fit, start_is, new_weight_is, data_is, start_small, half_room}

-- a list is a matter of what it is made of, and not of the phase
pub next_like : (k k₁ : Control) → k₁.base.pages ≡ k.base.pages → k₁.base.last ≡ k.base.last → k₁.base.table ≡ k.base.table → k₁.manifest ≡ k.manifest → k₁.merging ≡ k.merging → next_manifest k₁ ≡ next_manifest k
unfolding next_manifest
next_like k k₁ a b c d e = λ i. next_manifest (control (base k.base.phase (a i) (b i) (c i)) (d i) k.lookup (e i))

module _ (n pages : ℕ) (h : House) (j : Job n pages h) (few : n < most_commands) (p : Phase) (k : Control) (m : List ℕ) (o : KeepsMemory n pages h j p k m) where
  abbrev new : Manifest
  new = next_manifest k

  last_same : k.base.last ≡ h.last
  last_same = ap (λ b. b.last) o.base_is

  pub commit_is : new.commit ≡ suc j.list.commit
  unfolding next_manifest
  commit_is =
      let e : wrap (j.list.commit + 1) ≡ suc j.list.commit = omega (arith, j.commits, few) in
      ap (λ f. wrap (f.commit + 1)) o.manifest_is ∙ e

  start_behind : 3 ≤ start_page n pages h j
  start_behind = go (other j.list.layout.half)
    where
      go : (x : Half) → 3 ≤ half_start pages x
      go First = omega arith
      go Second = omega arith

  module _ (g : k.merging.writer.block.count ≡ length (blocks (sort h.versions))) (w : k.merging.writer.stream.put ≡ page_count (length (new_stream n pages h j))) where
    blocks_few : length (blocks (sort h.versions)) < 4294967296
    blocks_few =
        omega (arith, entries_long pages h.versions j.stored.many j.room (all_fit n pages h j), positions_fit pages h.versions j.stored.many j.room (all_fit n pages h j), half_room n pages h j, start_small n pages h j)

    pub new_fits : Fits new
    unfolding next_manifest
    new_fits =
        let s = start_is n pages h j p k m o in
        let d = data_is n pages h j p k m o in
        let x = new_weight_is n pages h j p k m o in
        let r = half_room n pages h j in
        let t = start_small n pages h j in
        record {
          commit = omega arith;
          pages = omega (arith, ap (λ b. b.pages) o.base_is, j.stored.few);
          free = omega arith;
          last = omega (arith, last_same, j.early);
          low = omega (arith, ap (λ f. f.moments.low) o.manifest_is, j.stored.low_is);
          all = omega arith;
          tables = omega arith;
          start = omega (arith, s, t);
          first_data = omega (arith, d, r, t);
          size = omega (arith, w, r, t, ap position_pages x);
          blocks = omega (arith, g, blocks_few);
          level = omega arith;
          latest = omega (arith, last_same, j.early);
        }

    pub follows : Next j.list new
    follows = record { number = commit_is; fits = new_fits }

    -- pages with the new table and a whole new list hold every version
    pub new_stored : (ps qs : List Page) → Working n pages h j (record { pages = ps; queue = [] }) → Ended n pages h j (page_count (length (new_entries n pages h j))) k.merging (record { pages = ps; queue = [] }) →
        length qs ≡ length ps → Committed new qs → ((i : ℕ) → 3 ≤ i → page_at qs i ≡ page_at ps i) → AllPages qs → Stored pages h.versions new qs
    unfolding next_manifest all_written
    new_stored ps qs wo en l c s a =
        let es = start_is n pages h j p k m o in
        let ed = data_is n pages h j p k m o in
        let r = half_room n pages h j in
        let t = start_small n pages h j in
        record {
          committed = c;
          fits_list = new_fits;
          sized = l ∙ wo.sized;
          many = j.stored.many;
          few = j.stored.few;
          there = record {
            lies = record {
              positions = stream_back qs (new_start k) (new_entries n pages h j)
                  (λ i x. ap (λ y. page_at qs (y + i)) es ∙ s (start_page n pages h j + i) (omega (arith, start_behind)) ∙ en.written.entries i x);
              stream = stream_back qs (new_data k) (new_stream n pages h j)
                  (λ i x. ap (λ y. page_at qs (y + i)) ed ∙ s (data_page n pages h j + i) (omega (arith, start_behind)) ∙ en.written.stream i x);
              count = g;
              fits = fits_in_limits h.versions (all_fit n pages h j);
              rises = j.rises;
            };
            start_small = omega (arith, es, t);
            data_small = omega (arith, ed, r, t);
            few = omega (arith, g, blocks_few);
            short = omega (arith, r, t);
          };
          in_place = record {
            entries = λ i x. subst (λ f. InHalf pages (other f.layout.half) (new_start k + i)) (sym o.manifest_is) (subst (λ y. InHalf pages (other j.list.layout.half) (y + i)) (sym es) (positions_in_half n pages h j (all_fit n pages h j) i x));
            stream = λ i x. subst (λ f. InHalf pages (other f.layout.half) (new_data k + i)) (sym o.manifest_is) (subst (λ y. InHalf pages (other j.list.layout.half) (y + i)) (sym ed) (data_in_half n pages h j (all_fit n pages h j) i x));
          };
          weighs = new_weight_is n pages h j p k m o;
          room = j.room;
          last_is = last_same ∙ j.last_is;
          low_is = ap (λ f. f.moments.low) o.manifest_is ∙ j.stored.low_is;
          fit = all_fit n pages h j;
          early = subst (λ x. x < 9223372036854775808) j.last_is j.early;
          all_pages = a;
        }

    -- a stop while the new list waits leaves the old store or the new
    pub listed_stops : (ps : List Page) (cs : List ℕ) → Working n pages h j (record { pages = ps; queue = [] }) → Ended n pages h j (page_count (length (new_entries n pages h j))) k.merging (record { pages = ps; queue = [] }) →
        Stored pages h.safe j.list (left ps (list_write new ∷ []) cs) ⊎ Stored pages h.versions new (left ps (list_write new ∷ []) cs)
    unfolding every
    listed_stops ps cs wo en =
        let old : Stored pages h.safe j.list ps = stored_same pages h.safe j.list j.before ps j.stored (wo.sized ∙ sym j.stored.sized) wo.same wo.all_pages in
        let sized = length_left ps (list_write new ∷ []) cs in
        let whole = pages_left ps (list_write new ∷ []) cs wo.all_pages (rw (page_is new).0 refl) in
        ⊎_elim
        (λ c. inl (stored_with pages h.safe j.list ps (left ps (list_write new ∷ []) cs) old sized c (λ i x. left_else ps (list_write new ∷ []) cs i (list_apart new i (behind i x))) whole))
        (λ c. inr (new_stored ps (left ps (list_write new ∷ []) cs) wo en sized c (λ i x. left_else ps (list_write new ∷ []) cs i (list_apart new i (omega arith))) whole))
        (stop_keeps_list j.list new ps cs old.committed follows)
      where
        behind : (i : ℕ) → InHalf pages j.list.layout.half i → 2 ≤ i
        behind i x = omega (arith, x.from, halves_apart.behind pages j.list.layout.half)

    -- once it is settled the new store is there
    pub listed_settled : (ps : List Page) → Working n pages h j (record { pages = ps; queue = [] }) → Ended n pages h j (page_count (length (new_entries n pages h j))) k.merging (record { pages = ps; queue = [] }) →
        Stored pages h.versions new (all_written ps (list_write new ∷ []))
    unfolding every
    listed_settled ps wo en =
        let old : Stored pages h.safe j.list ps = stored_same pages h.safe j.list j.before ps j.stored (wo.sized ∙ sym j.stored.sized) wo.same wo.all_pages in
        new_stored ps (all_written ps (list_write new ∷ [])) wo en (length_written ps (list_write new ∷ [])) (settled_is_next j.list new ps old.committed follows)
        (λ i x. written_else ps (list_write new ∷ []) i (list_apart new i (omega arith))) (pages_written ps (list_write new ∷ []) wo.all_pages (rw (page_is new).0 refl))
