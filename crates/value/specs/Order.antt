-- The order of two keys, as `order` answers it: by bytes, a beginning before what it begins; and of two versions, as a table has them.
use Rattle.std.specs.Prelude.{◌≡◌, ℕ, List}
use Rattle.value.specs.Versions.{pick, same, before, Version}
use Rattle.value.specs.Sorted.{comes_first}
use Rattle.std.specs.declared.cmp.Ordering.{Ordering}
use Rattle.std.specs.declared.cmp.Ordering.TheVariants.{Less, Equal, Greater}

-- two keys, of any length
unfoldable pub OrderSays : (as₁ bs : List ℕ) → Ordering → Type 0
OrderSays as₁ bs r = r ≡ pick (before as₁ bs) Less (pick (same as₁ bs) Equal Greater)

-- two versions: by key, of one key the newest first
unfoldable pub version_order : Version → Version → Ordering
version_order v u = pick (comes_first v u) Less (pick (comes_first u v) Greater Equal)
