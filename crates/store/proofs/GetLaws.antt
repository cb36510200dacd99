-- Getting: how a step that is told to get ends.
use Rattle.std.proofs.Common.{◌≡◌, ℕ, true, false, List, ◌++◌, length, drop, Some, None, refl, ap}
use Rattle.memtable.specs.Arena.{gone_at}
use Rattle.store.specs.Acts.{ActTold, Does}
use Rattle.store.specs.Control.{control, put_control}
use Rattle.store.specs.Regions.{arena_of, sought}
use Rattle.store.specs.Get.{told_of, got}
use Rattle.store.specs.Shown.{row_at}
use Rattle.store.specs.declared.told.Told.TheVariants.{Tells, Done}
use Rattle.store.specs.declared.control.Phase.TheVariants.{Shown}
use Rattle.store.specs.declared.control.Control.{Control}

-- how it ends
pub nothing_found : (k : Control) (m key out : List ℕ) (s : ℕ) → sought k.table m key s ≡ None → Does (got k m key s) Done out m out
unfolding got told_of ActTold
nothing_found k m key out s e = rw e (refl, (refl, refl))

pub gone_found : (k : Control) (m key out : List ℕ) (s p : ℕ) → sought k.table m key s ≡ Some p → gone_at (arena_of m) p ≡ true → Does (got k m key s) Done out m out
unfolding got told_of ActTold
gone_found k m key out s p e g = rw (e, g) (refl, (refl, refl))

pub value_found : (k : Control) (m key out m₁ out₁ : List ℕ) (s p n : ℕ) → sought k.table m key s ≡ Some p → gone_at (arena_of m) p ≡ false → m₁ ≡ put_control m (control Shown k.pages k.last k.table) →
    n ≡ length (row_at (arena_of m) p) → out₁ ≡ row_at (arena_of m) p ++ drop (length (row_at (arena_of m) p)) out → Does (got k m key s) (Tells n) out m₁ out₁
unfolding got told_of ActTold
value_found k m key out m₁ out₁ s p n e g q l r = rw (e, g) (q, (ap Tells l, r))
