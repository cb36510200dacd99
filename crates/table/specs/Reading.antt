-- Reading a block: its bytes are lent, just those of the block.
--   block_bound row      its bound
--   first_in row         where its first version lies, if one does
--   next_in row p        where the version behind p lies
--   head_key row         the key of its first version, of which no more than the key has to be there
--   wanted_at row k s p  is the version at p one of k below s?
--   found_in row k s     where the first such version lies
use Rattle.std.specs.Prelude.{◌≡◌, ℕ, zero, suc, ◌<◌, ◌≤◌, Bool, true, ◌&&◌, List, [], ◌∷◌, take, Some, None, Option, nat_lt, slice_index}
use Rattle.value.specs.Versions.{pick, every, same, Version}
use Rattle.value.specs.Numbers.{part, number_at}
use Rattle.value.specs.Encoding.{in_limits, parsed, key_at, version_at, end_of, place_of}
use Rattle.value.specs.Sorted.{lookup}
use Rattle.value.specs.declared.version.Place.{Place}
use Rattle.table.specs.Blocks.{bound_of}
use Rattle.table.specs.Layout.{block_limit, block_bytes}
use Rattle.table.specs.Sizes.{block_length}

abbrev pub block_bound : List ℕ → ℕ
block_bound row = number_at 8 0 row

abbrev pub first_in : List ℕ → Option Place
first_in row = parsed row 8

-- a bound of 8 bytes, and 15 before the key
abbrev pub head_key : List ℕ → List ℕ
head_key row = part 23 (slice_index row 8) row

-- as many bytes as a head may take
abbrev pub head_limit : ℕ
head_limit = 278

abbrev pub next_in : List ℕ → Place → Option Place
next_in row p = parsed row (end_of p)

abbrev pub wanted_at : List ℕ → List ℕ → ℕ → Place → Bool
wanted_at row k s p = same (key_at row p) k && nat_lt p.moment s

-- a version takes at least 16 bytes, so a block has at most 94
abbrev pub most_versions : ℕ
most_versions = 94

unfoldable pub found_from : ℕ → List ℕ → List ℕ → ℕ → Option Place → Option Place
found_from zero row k s o = None
found_from (suc n) row k s None = None
found_from (suc n) row k s (Some p) = pick (wanted_at row k s p) (Some p) (found_from n row k s (next_in row p))

unfoldable pub found_in : List ℕ → List ℕ → ℕ → Option Place
found_in row k s = found_from most_versions row k s (first_in row)

-- what was found is what was looked for
abbrev pub Finds : List ℕ → List Version → Option Place → Type 0
Finds row found None = found ≡ []
Finds row found (Some p) = found ≡ version_at row p ∷ []

-- THE STATEMENTS, of a block with these versions. It tells its bound, and its versions one after the other.
abbrev pub BlockReads : Type 0
BlockReads =
    (p : List Version) (v : Version) (vs : List Version) → every in_limits (v ∷ vs) ≡ true → bound_of p v < 18446744073709551616 →
    (block_bound (block_bytes p (v ∷ vs)) ≡ bound_of p v) × (first_in (block_bytes p (v ∷ vs)) ≡ Some (place_of 8 v)) × (version_at (block_bytes p (v ∷ vs)) (place_of 8 v) ≡ v)

-- The first bytes suffice for the bound and the head's key.
abbrev pub HeadReads : Type 0
HeadReads =
    (p : List Version) (v : Version) (vs : List Version) (n : ℕ) → every in_limits (v ∷ vs) ≡ true → bound_of p v < 18446744073709551616 → head_limit ≤ n →
    (block_bound (take n (block_bytes p (v ∷ vs))) ≡ bound_of p v) × (head_key (take n (block_bytes p (v ∷ vs))) ≡ v.key)

-- What is found in it is what is looked up in its versions.
abbrev pub BlockFinds : Type 0
BlockFinds =
    (p : List Version) (v : Version) (vs : List Version) (k : List ℕ) (s : ℕ) → every in_limits (v ∷ vs) ≡ true → block_length (v ∷ vs) ≤ block_limit →
    Finds (block_bytes p (v ∷ vs)) (lookup (v ∷ vs) k s) (found_in (block_bytes p (v ∷ vs)) k s)
