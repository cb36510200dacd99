-- Writing: how a step that is told to write ends, check by check.
use Rattle.std.proofs.Common.{◌≡◌, ℕ, List, Some, None, refl}
use Rattle.value.specs.Versions.{Version, version}
use Rattle.memtable.specs.declared.memtable.Memtable.{Memtable}
use Rattle.store.specs.Acts.{ActTold, Quiet}
use Rattle.store.specs.Write.{put_in, wrote}
use Rattle.store.specs.Checks.{key_size, value_size, proper_moment, not_earlier, unwritten, roomy, within_pages}
use Rattle.store.specs.declared.told.Told.TheVariants.{Done, No}
use Rattle.store.specs.declared.control.Control.{Control}

module _ (k : Control) (m : List ℕ) (v : Version) where
  pub bad_key : key_size v.key ≡ None → Quiet (wrote k m v) (No 6) m
  unfolding wrote ActTold
  bad_key e = rw e (refl, λ out. (refl, refl))

  module _ (kl : ℕ) (e : key_size v.key ≡ Some kl) where
    pub bad_value : value_size v.value ≡ None → Quiet (wrote k m v) (No 6) m
    unfolding wrote ActTold
    bad_value f = rw (e, f) (refl, λ out. (refl, refl))

    module _ (vl : ℕ) (f : value_size v.value ≡ Some vl) where
      pub bad_moment : proper_moment v.moment ≡ None → Quiet (wrote k m v) (No 6) m
      unfolding wrote ActTold
      bad_moment g = rw (e, f, g) (refl, λ out. (refl, refl))

      module _ (s : ℕ) (g : proper_moment v.moment ≡ Some s) where
        pub too_early : not_earlier k.last s ≡ None → Quiet (wrote k m v) (No 3) m
        unfolding wrote ActTold
        too_early h = rw (e, f, g, h) (refl, λ out. (refl, refl))

        module _ (s₁ : ℕ) (h : not_earlier k.last s ≡ Some s₁) where
          pub written_already : unwritten k.table m v.key s₁ ≡ None → Quiet (wrote k m v) (No 3) m
          unfolding wrote ActTold
          written_already i = rw (e, f, g, h, i) (refl, λ out. (refl, refl))

          module _ (place : ℕ) (i : unwritten k.table m v.key s₁ ≡ Some place) where
            pub no_memory : roomy k.table kl vl ≡ None → Quiet (wrote k m v) (No 7) m
            unfolding wrote ActTold
            no_memory j = rw (e, f, g, h, i, j) (refl, λ out. (refl, refl))

            module _ (t : Memtable) (j : roomy k.table kl vl ≡ Some t) where
              pub no_pages : within_pages k.pages t.weight ≡ None → Quiet (wrote k m v) (No 8) m
              unfolding wrote ActTold
              no_pages l = rw (e, f, g, h, i, j, l) (refl, λ out. (refl, refl))

              pub goes_in : (w : ℕ) → within_pages k.pages t.weight ≡ Some w → (m₁ : List ℕ) → m₁ ≡ put_in k place t (version v.key s₁ v.gone v.value) m → Quiet (wrote k m v) Done m₁
              unfolding wrote ActTold
              goes_in w l m₁ q = rw (e, f, g, h, i, j, l) (q, λ out. (refl, refl))
