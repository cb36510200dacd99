-- The end of a flush: the new list is put, it is settled, and memory is emptied.
use Rattle.std.proofs.Common.{◌≡◌, ℕ, suc, ◌<◌, ◌≤◌, List, [], ◌∷◌, ◌++◌, length, sym, refl, ap, ◌∙◌, subst, append-nil, arith, lt-ltb}
use Rattle.value.specs.Versions.{every}
use Rattle.memtable.specs.Memtable.{none}
use Rattle.memtable.proofs.AnswerLaws.{empty_right}
use Rattle.table.specs.Device.{Device, Page, flushed}
use Rattle.table.specs.Sizes.{page_count}
use Rattle.manifest.specs.Places.{slot_of}
use Rattle.manifest.specs.Commit.{list_write}
use Rattle.manifest.proofs.PageLaws.{page_is}
use Rattle.store.specs.House.{House, house, flush, core}
use Rattle.store.specs.Promise.{settle, world}
use Rattle.store.specs.Account.{Next, Ends, most_commands}
use Rattle.flushing_store.specs.Control.{base, control_of, put_control, to_phase}
use Rattle.store.specs.Regions.{index_of, arena_of}
use Rattle.flushing_store.specs.Target.{next_manifest}
use Rattle.flushing_store.specs.Flush.{listed_step, emptied}
use Rattle.flushing_store.specs.declared.control.Phase.{Phase}
use Rattle.flushing_store.specs.declared.control.Phase.TheVariants.{Idle, Settled, Listed, Committed as CommittedPhase}
use Rattle.flushing_store.specs.declared.control.Control.{Control}
use Rattle.flushing_store.proofs.RegionLaws.{length_put, SmallBase, base_put, manifest_put}
use Rattle.flushing_store.proofs.StoredLaws.{Stored}
use Rattle.flushing_store.proofs.HeldLaws.{small_base}
use Rattle.flushing_store.proofs.OwnAccount.{Rest}
use Rattle.flushing_store.proofs.WholeAccount.{account}
use Rattle.flushing_store.proofs.FlushAccount.{Job, new_entries, Working, KeepsMemory, Ended, Flushes, listed, committed}
use Rattle.flushing_store.proofs.FlushSteps.{saved_keeps}
use Rattle.flushing_store.proofs.FlushPhases.{turned_to, merging_kept}
use Rattle.flushing_store.proofs.CommitSteps.{next_like, commit_is, listed_settled}

-- what memory holds when all is safe
abbrev pub all_safe : House → House
all_safe h = house h.versions h.versions h.last h.low

module _ (n pages : ℕ) (h : House) (j : Job n pages h) (few : n < most_commands) (m : List ℕ) (d : Device) where
  abbrev k : Control
  k = control_of m

  abbrev all_lists : ℕ
  all_lists = page_count (length (new_entries n pages h j))

  -- the new list is the same in every phase
  new_same : (p q : Phase) → KeepsMemory n pages h j p k m → (control_of (put_control m (to_phase k q))).merging ≡ k.merging → next_manifest (control_of (put_control m (to_phase k q))) ≡ next_manifest k
  new_same p q o e =
      let s = saved_keeps n pages h j q (to_phase k q) m (turned_to n pages h j few m d p q o) in
      next_like k (control_of (put_control m (to_phase k q))) (ap (λ b. b.pages) s.base_is ∙ sym (ap (λ b. b.pages) o.base_is)) (ap (λ b. b.last) s.base_is ∙ sym (ap (λ b. b.last) o.base_is))
      (ap (λ b. b.table) s.base_is ∙ sym (ap (λ b. b.table) o.base_is)) (s.manifest_is ∙ sym o.manifest_is) e

  pub after_settled : KeepsMemory n pages h j Settled k m → Working n pages h j d → d.queue ≡ [] → Ended n pages h j all_lists k.merging d → (μ : ℕ) → μ ≡ 3 →
      Next (Flushes n pages h) (Ends core account n pages h flush) d [] (listed_step k m).memory μ (listed_step k m).act
  unfolding listed_step
  after_settled o wo q en μ z =
      let e₁ = merging_kept n pages h j few m d all_lists Listed d o.long en in
      let same = new_same Settled Listed o e₁ in
      let quiet : d ≡ record { pages = d.pages; queue = [] } = λ i. record { pages = d.pages; queue = q i } in (
        2,
        omega arith,
        lt-ltb (slot_of (next_manifest k).commit) (length d.pages) (omega (arith, wo.sized, j.stored.many)),
        (page_is (next_manifest k)).0,
        listed j (saved_keeps n pages h j Listed (to_phase k Listed) m (turned_to n pages h j few m d Settled Listed o)) d.pages (subst (Working n pages h j) quiet wo)
            (subst (λ g. Ended n pages h j all_lists g (record { pages = d.pages; queue = [] })) (sym e₁) (subst (Ended n pages h j all_lists k.merging) quiet en))
            (λ i. record { pages = d.pages; queue = (q i) ++ list_write (sym same i) ∷ [] }) refl refl refl,
      )

  pub after_listed : KeepsMemory n pages h j Listed k m → (ps : List Page) → Working n pages h j (record { pages = ps; queue = [] }) → Ended n pages h j all_lists k.merging (record { pages = ps; queue = [] }) →
      d ≡ record { pages = ps; queue = list_write (next_manifest k) ∷ [] } → (μ : ℕ) → μ ≡ 2 →
      Next (Flushes n pages h) (Ends core account n pages h flush) d [] (put_control m (to_phase k CommittedPhase)) μ settle
  after_listed o ps wo en ed μ z =
      let e₁ = merging_kept n pages h j few m d all_lists CommittedPhase (record { pages = ps; queue = [] }) o.long en in
      let same = new_same Listed CommittedPhase o e₁ in
      let there = listed_settled n pages h j few Listed k m o en.counted en.datas ps wo en in (
        1,
        omega arith,
        committed j (saved_keeps n pages h j CommittedPhase (to_phase k CommittedPhase) m (turned_to n pages h j few m d Listed CommittedPhase o)) refl
            (subst (λ f. Stored pages h.versions f (flushed d).pages) (sym same) (subst (λ x. Stored pages h.versions (next_manifest k) (flushed x).pages) (sym ed) there))
            (subst (λ f. f.commit ≤ suc n) (sym same) (omega (arith, commit_is n pages h j few Listed k m o, j.commits))) refl refl refl,
      )

  -- memory is emptied
  pub after_committed : KeepsMemory n pages h j CommittedPhase k m → d.queue ≡ [] → Stored pages h.versions (next_manifest k) d.pages → (next_manifest k).commit ≤ suc n →
      Rest (suc n) pages (all_safe h) Idle (world d (put_control m (emptied k)))
  unfolding every
  after_committed o q st le = record {
    list = next_manifest k;
    commits = le;
    quiet = q;
    stored = st;
    held = record {
      fresh = [];
      table = none;
      all_is = sym (append-nil h.versions);
      long = length_put m (emptied k) o.long;
      base_is = base_put m (emptied k) o.long (subst SmallBase (sym base_same) (small_base Idle pages h.last none (index_of m) (arena_of m) [] j.stored.few j.early (empty_right (index_of m) (arena_of m)))) ∙ base_same;
      manifest_is = manifest_put m (emptied k) o.long st.fits_list;
      holds = empty_right (index_of (put_control m (emptied k))) (arena_of (put_control m (emptied k)));
      rises = j.rises;
      last_is = j.last_is;
      early = j.early;
      few = j.stored.few;
      none_low = j.none_low;
      fit = refl;
      room = j.room;
      fits_list = st.fits_list;
    };
  }
    where
      base_same : (emptied k).base ≡ base Idle pages h.last none
      base_same = λ i. base Idle (o.base_is i).pages (o.base_is i).last none
