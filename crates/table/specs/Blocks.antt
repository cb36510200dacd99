-- A table's versions in blocks. A block begins with its bound: the moment of the version before it in the table if that has the same key, else 2^64 - 1.
--   bound_of p v     the bound of a block that begins with v, where p holds the version before it, if there is one
--   ahead k s b h    does what a reading of k at s wants, if it is there, stand in the block with the bound b and the head's key h, or behind it?
--   last_one p vs    the last version of p and then vs, as a list of at most one
--   behind_it p k s  no block of the rest is ahead, where p holds the version before the rest
use Rattle.std.specs.Prelude.{◌≡◌, ℕ, zero, ◌≤◌, Bool, true, false, ◌&&◌, List, [], ◌∷◌, ◌++◌, nat_le}
use Rattle.value.specs.Versions.{pick, or, same, before, Version}
use Rattle.value.specs.Sorted.{in_order, lookup}

abbrev pub no_bound : ℕ
no_bound = 18446744073709551615

unfoldable pub bound_of : List Version → Version → ℕ
bound_of [] v = no_bound
bound_of (u ∷ us) v = pick (same u.key v.key) u.moment no_bound

unfoldable pub ahead : List ℕ → ℕ → ℕ → List ℕ → Bool
ahead k s bound head = or (before head k) (same head k && nat_le s bound)

unfoldable pub last_one : List Version → List Version → List Version
last_one p [] = p
last_one p (v ∷ vs) = last_one (v ∷ []) vs

unfoldable pub not_ahead : List ℕ → ℕ → List Version → List Version → Type 0
not_ahead k s p [] = zero ≡ zero
not_ahead k s p (w ∷ ws) = ahead k s (bound_of p w) w.key ≡ false

-- ONE BLOCK DECIDES: where a block is ahead and the next is not, what is looked up in the table is looked up in that block.
abbrev pub BlockDecides : Type 0
BlockDecides =
    (us : List Version) (v : Version) (vs ws : List Version) (k : List ℕ) (s : ℕ) → in_order (us ++ (v ∷ vs) ++ ws) ≡ true → s ≤ no_bound →
    ahead k s (bound_of (last_one [] us) v) v.key ≡ true → not_ahead k s (last_one [] (us ++ v ∷ vs)) ws →
    lookup (us ++ (v ∷ vs) ++ ws) k s ≡ lookup (v ∷ vs) k s

-- where the first block is not ahead, the table has nothing
abbrev pub NoneDecides : Type 0
NoneDecides =
    (ws : List Version) (k : List ℕ) (s : ℕ) → in_order ws ≡ true → s ≤ no_bound → not_ahead k s [] ws → lookup ws k s ≡ []

-- the test is monotone: before a block that is ahead every block is
abbrev pub AheadFalls : Type 0
AheadFalls =
    (us : List Version) (v : Version) (vs : List Version) (w : Version) (ws : List Version) (k : List ℕ) (s : ℕ) → in_order (us ++ (v ∷ vs) ++ w ∷ ws) ≡ true → s ≤ no_bound →
    ahead k s (bound_of (last_one [] (us ++ v ∷ vs)) w) w.key ≡ true → ahead k s (bound_of (last_one [] us) v) v.key ≡ true
