-- A version that is read from words, part by part.
use Rattle.std.proofs.Common.{◌≡◌, ℕ, Bool, List, take}
use Rattle.value.specs.Versions.{Version, version}
use Rattle.memtable.specs.Arena.{key_at, value_at, moment_at, gone_at}
use Rattle.store.specs.Acts.{Quiet}
use Rattle.flushing_store.specs.Control.{put_control, to_phase}
use Rattle.flushing_store.specs.Stage.{version_of, staged_version}
use Rattle.flushing_store.specs.Write.{accepted, finished}
use Rattle.store.specs.declared.told.Told.{Told}
use Rattle.flushing_store.specs.declared.control.Phase.TheVariants.{Idle}
use Rattle.flushing_store.specs.declared.control.Control.{Control}

pub version_read : (ws : List ℕ) (p : ℕ) (ks : List ℕ) (s : ℕ) (g : Bool) (vs : List ℕ) → ks ≡ key_at ws p → s ≡ moment_at ws p → g ≡ gone_at ws p → vs ≡ take 1024 (value_at ws p) → version ks s g vs ≡ version_of ws p
unfolding version_of
version_read ws p ks s g vs a b c d = (λ i. version (a i) (b i) (c i) (d i))

pub finishes : (k : Control) (m m₁ m₂ : List ℕ) (r : Told) (v : Version) → m₁ ≡ put_control m (to_phase k Idle) → v ≡ staged_version m₁ → Quiet (accepted (to_phase k Idle) m₁ v) r m₂ → Quiet (finished k m) r m₂
unfolding finished
finishes k m m₁ m₂ r v e f q = rw (← e, ← f) q
