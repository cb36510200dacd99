-- Binary search over a table's blocks for the last one that is ahead of what a reading wants.
--   ahead_at k s bs i    is block number i of bs ahead?
--   Between k s bs l h   all blocks before l are ahead, and none from h on is
--   middle, narrowed     the block to look at next, and what is left to look at then
use Rattle.std.specs.Prelude.{◌≡◌, ℕ, suc, ◌+◌, ◌/◌, ◌<◌, ◌≤◌, min, Bool, true, false, List, [], ◌∷◌, length, take, slice_index_or}
use Rattle.value.specs.Versions.{before, Version}
use Rattle.value.specs.Sorted.{in_order, lookup}
use Rattle.table.specs.Blocks.{no_bound, bound_of, ahead, last_one}
use Rattle.table.specs.Sizes.{joined, SomeIn}
use Rattle.table.specs.declared.search.Search.{Search}

unfoldable pub ahead_first : List ℕ → ℕ → List Version → List Version → Bool
ahead_first k s p [] = false
ahead_first k s p (v ∷ vs) = ahead k s (bound_of p v) v.key

unfoldable pub ahead_at : List ℕ → ℕ → List (List Version) → ℕ → Bool
ahead_at k s bs i = ahead_first k s (last_one [] (joined (take i bs))) (slice_index_or bs i [])

pub record Between (k : List ℕ) (s : ℕ) (bs : List (List Version)) (low high : ℕ) : Type 0 where
  pub ordered : low ≤ high
  pub within : high ≤ length bs
  pub before : (i : ℕ) → i < low → ahead_at k s bs i ≡ true
  pub behind : (i : ℕ) → high ≤ i → i < length bs → ahead_at k s bs i ≡ false

abbrev pub middle : ℕ → ℕ → ℕ
middle l h = (l + h) / 2

abbrev pub narrowed : Search → Bool → Search
narrowed f true = record { low = min (suc (middle f.low f.high)) f.high; high = f.high }
narrowed f false = record { low = f.low; high = middle f.low f.high }

-- THE STATEMENTS, of a table in order. A look at the block in the middle leaves less to look at.
abbrev pub SearchNarrows : Type 0
SearchNarrows =
    (k : List ℕ) (s : ℕ) (bs : List (List Version)) (f : Search) → in_order (joined bs) ≡ true → SomeIn bs → s ≤ no_bound → f.low < f.high → Between k s bs f.low f.high →
    (middle f.low f.high < length bs)
    × Between k s bs (narrowed f (ahead_at k s bs (middle f.low f.high))).low (narrowed f (ahead_at k s bs (middle f.low f.high))).high

-- Where nothing is left to look at, the block before decides; before the first there is nothing.
abbrev pub SearchEnds : Type 0
SearchEnds =
    (k : List ℕ) (s : ℕ) (bs : List (List Version)) (n : ℕ) → in_order (joined bs) ≡ true → SomeIn bs → s ≤ no_bound → Between k s bs n n →
    (n ≡ 0 → lookup (joined bs) k s ≡ []) × ((m : ℕ) → n ≡ suc m → lookup (joined bs) k s ≡ lookup (slice_index_or bs m []) k s)

-- FROM THE BACK: is the head of block number i before a key?
unfoldable pub head_before : List ℕ → List Version → Bool
head_before k [] = false
head_before k (v ∷ vs) = before v.key k

-- It is, of every block before one of which it is; behind one of which it is not, no key is before that key.
abbrev pub HeadsRise : Type 0
HeadsRise =
    (k : List ℕ) (bs : List (List Version)) (i j : ℕ) → in_order (joined bs) ≡ true → SomeIn bs → i ≤ j → j < length bs →
    head_before k (slice_index_or bs j []) ≡ true → head_before k (slice_index_or bs i []) ≡ true
