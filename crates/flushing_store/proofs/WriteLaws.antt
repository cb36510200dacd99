-- Writing: how a step that is told to write ends, check by check.
use Rattle.std.proofs.Common.{◌≡◌, ℕ, ◌+◌, ◌<◌, ◌≤◌, true, false, eqb, ltb, List, length, Some, None, sym, refl, ap, ◌∙◌, subst, le-ltb, lt-ltb}
use Rattle.value.specs.Versions.{Version, version}
use Rattle.value.specs.declared.version.Place.{Place}
use Rattle.memtable.specs.Arena.{key_at, moment_at}
use Rattle.memtable.specs.declared.memtable.Memtable.{Memtable}
use Rattle.table.specs.Row.{octets}
use Rattle.table.specs.Lookup.{with_page}
use Rattle.table.specs.declared.lookup.Lookup.{Lookup}
use Rattle.flushing_store.specs.Control.{put_control, to_phase, stage_region, ring_of}
use Rattle.store.specs.Regions.{wrap}
use Rattle.flushing_store.specs.Stage.{staged}
use Rattle.flushing_store.specs.Look.{extent_of, looked, page_in, asked}
use Rattle.flushing_store.specs.Write.{put_in, accepted, sought_below, wrote, finished, written_by, wrote_by, wrote_on}
use Rattle.store.specs.Checks.{key_size, value_size, proper_moment, not_earlier, unwritten, roomy, within_pages}
use Rattle.store.specs.declared.told.Told.{Told}
use Rattle.store.specs.declared.told.Told.TheVariants.{Done, No}
use Rattle.flushing_store.specs.declared.look.Looked.{Looked}
use Rattle.flushing_store.specs.declared.look.Looked.TheVariants.{On, Found, Missing}
use Rattle.flushing_store.specs.declared.control.Phase.TheVariants.{Idle, Writing}
use Rattle.flushing_store.specs.declared.control.Control.{Control}
use Rattle.store.specs.Acts.{ActTold, Quiet}

-- the checks that are left when the table is known not to have it
module _ (k : Control) (m : List ℕ) (v : Version) where
  pub written_already : unwritten k.base.table m v.key v.moment ≡ None → Quiet (accepted k m v) (No 3) m
  unfolding accepted ActTold
  written_already i = rw i (refl, λ out. (refl, refl))

  module _ (place : ℕ) (i : unwritten k.base.table m v.key v.moment ≡ Some place) where
    pub no_memory : roomy k.base.table (length v.key) (length v.value) ≡ None → Quiet (accepted k m v) (No 7) m
    unfolding accepted ActTold
    no_memory j = rw (i, j) (refl, λ out. (refl, refl))

    module _ (t : Memtable) (j : roomy k.base.table (length v.key) (length v.value) ≡ Some t) where
      pub no_pages : (w : ℕ) → w ≡ wrap (k.manifest.weight.all + t.weight) → within_pages k.base.pages w ≡ None → Quiet (accepted k m v) (No 8) m
      unfolding accepted ActTold
      no_pages w e l = rw (i, j, sym e, l) (refl, λ out. (refl, refl))

      pub goes_in : (w x : ℕ) → w ≡ wrap (k.manifest.weight.all + t.weight) → within_pages k.base.pages w ≡ Some x → (m₁ : List ℕ) → m₁ ≡ put_in k place t v m → Quiet (accepted k m v) Done m₁
      unfolding accepted ActTold
      goes_in w x e l m₁ q = rw (i, j, sym e, l) (q, λ out. (refl, refl))

module _ (k : Control) (m : List ℕ) (v : Version) where
  pub bad_key : key_size v.key ≡ None → Quiet (wrote k m v) (No 6) m
  unfolding wrote ActTold
  bad_key e = rw e (refl, λ out. (refl, refl))

  module _ (kl : ℕ) (e : key_size v.key ≡ Some kl) where
    pub bad_value : value_size v.value ≡ None → Quiet (wrote k m v) (No 6) m
    unfolding wrote ActTold
    bad_value f = rw (e, f) (refl, λ out. (refl, refl))

    module _ (vl : ℕ) (f : value_size v.value ≡ Some vl) where
      pub bad_moment : proper_moment v.moment ≡ None → Quiet (wrote k m v) (No 6) m
      unfolding wrote ActTold
      bad_moment g = rw (e, f, g) (refl, λ out. (refl, refl))

      module _ (s : ℕ) (g : proper_moment v.moment ≡ Some s) where
        pub too_early : not_earlier k.base.last s ≡ None → Quiet (wrote k m v) (No 3) m
        unfolding wrote ActTold
        too_early h = rw (e, f, g, h) (refl, λ out. (refl, refl))

        module _ (s₁ : ℕ) (h : not_earlier k.base.last s ≡ Some s₁) (r : Told) (m₁ : List ℕ) where
          pub above_all : sought_below k s₁ ≡ None → Quiet (accepted k m (version v.key s₁ v.gone v.value)) r m₁ → Quiet (wrote k m v) r m₁
          unfolding wrote
          above_all i q = rw (e, f, g, h, i) q

          pub looks : (l : Lookup) (m₀ : List ℕ) → sought_below k s₁ ≡ Some l → m₀ ≡ staged (version v.key s₁ v.gone v.value) m → Quiet (asked (to_phase k Writing) m₀ l) r m₁ → Quiet (wrote k m v) r m₁
          unfolding wrote
          looks l m₀ i j q = rw (e, f, g, h, i, ← j) q

-- the pages that came
abbrev pub looked_for : Control → List ℕ → Lookup → Looked
looked_for k m l = looked l (extent_of k.manifest) (octets 2016 (ring_of m)) (key_at (stage_region m) 0) (wrap (moment_at (stage_region m) 0 + 1))

module _ (k : Control) (m : List ℕ) (l : Lookup) (r : Told) (m₁ : List ℕ) where
  pub write_on : (next : Lookup) → looked_for k m l ≡ On next → Quiet (asked k m next) r m₁ → Quiet (wrote_by k m l) r m₁
  unfolding wrote_by written_by
  write_on next e q = rw e q

  pub write_missing : looked_for k m l ≡ Missing → Quiet (finished k m) r m₁ → Quiet (wrote_by k m l) r m₁
  unfolding wrote_by written_by
  write_missing e q = rw e q

  pub write_other : (p : Place) → looked_for k m l ≡ Found p → eqb p.moment (moment_at (stage_region m) 0) ≡ false → Quiet (finished k m) r m₁ → Quiet (wrote_by k m l) r m₁
  unfolding wrote_by written_by
  write_other p e f q = rw (e, f) q

  pub write_same : (p : Place) → looked_for k m l ≡ Found p → eqb p.moment (moment_at (stage_region m) 0) ≡ true → m₁ ≡ put_control m (to_phase k Idle) → Quiet (wrote_by k m l) (No 3) m₁
  unfolding wrote_by written_by ActTold
  write_same p e f q = rw (e, f) (q, λ out. (refl, refl))

module _ (k : Control) (m p : List ℕ) (r : Told) (m₀ m₁ : List ℕ) (l : Lookup) (e : l ≡ with_page k.lookup) (f : m₀ ≡ page_in k.lookup p m) where
  pub write_asks : l.load.got < l.load.span.pages → Quiet (asked k m₀ l) r m₁ → Quiet (wrote_on k m p) r m₁
  unfolding wrote_on
  write_asks h q =
      let t : ltb (with_page k.lookup).load.got k.lookup.load.span.pages ≡ true = ap (λ (x : Lookup). ltb x.load.got x.load.span.pages) (sym e) ∙ lt-ltb l.load.got l.load.span.pages h in
      rw t (subst (λ (x : Lookup). Quiet (asked k (page_in k.lookup p m) x) r m₁) e (subst (λ (x : List ℕ). Quiet (asked k x l) r m₁) f q))

  pub write_ends : l.load.span.pages ≤ l.load.got → Quiet (wrote_by k m₀ l) r m₁ → Quiet (wrote_on k m p) r m₁
  unfolding wrote_on
  write_ends h q =
      let t : ltb (with_page k.lookup).load.got k.lookup.load.span.pages ≡ false = ap (λ (x : Lookup). ltb x.load.got x.load.span.pages) (sym e) ∙ le-ltb l.load.got l.load.span.pages h in
      rw t (subst (λ (x : Lookup). Quiet (wrote_by k (page_in k.lookup p m) x) r m₁) e (subst (λ (x : List ℕ). Quiet (wrote_by k x l) r m₁) f q))
