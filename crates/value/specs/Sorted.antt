-- The sorted view: a table on disk has its versions by key, and in one key the newest first. Assumes nothing: these are definitions, and statements whose proofs are owed.
use Rattle.std.specs.Prelude.{◌≡◌, ℕ, Bool, true, false, not, ◌&&◌, List, [], ◌∷◌, ◌++◌, length, nat_lt}
use Rattle.value.specs.Versions.{pick, or, every, each, none_of, same, before, Version, latest, all_seen, in_range, up_to_key, later_below, kept, weight}
use Rattle.value.specs.Rising.{rising}

-- one that's older than all that are there stands behind those of its key
unfoldable pub insert_old : Version → List Version → List Version
insert_old v [] = v ∷ []
insert_old v (u ∷ us) = pick (before v.key u.key) (v ∷ u ∷ us) (u ∷ insert_old v us)

unfoldable pub sort : List Version → List Version
sort [] = []
sort (v ∷ vs) = insert_old v (sort vs)

-- one that's newer than all that are there stands in front of those of its key
unfoldable pub insert_new : Version → List Version → List Version
insert_new v [] = v ∷ []
insert_new v (u ∷ us) = pick (before u.key v.key) (u ∷ insert_new v us) (v ∷ u ∷ us)

-- the order of a table: by key, in one key the newest first
abbrev pub comes_first : Version → Version → Bool
comes_first v u = or (before v.key u.key) (same v.key u.key && nat_lt u.moment v.moment)

unfoldable pub in_order : List Version → Bool
in_order [] = true
in_order (v ∷ vs) = every (comes_first v) vs && in_order vs

-- by key alone
abbrev pub not_under : List ℕ → Version → Bool
not_under k v = not (before v.key k)

unfoldable pub by_key : List Version → Bool
by_key [] = true
by_key (v ∷ vs) = every (not_under v.key) vs && by_key vs

-- the first of a key below a moment; and the same, but it stops at the first key that's too great
unfoldable pub lookup : List Version → List ℕ → ℕ → List Version
lookup [] k s = []
lookup (v ∷ vs) k s = pick (same v.key k && nat_lt v.moment s) (v ∷ []) (lookup vs k s)

unfoldable pub lookup_stop : List Version → List ℕ → ℕ → List Version
lookup_stop [] k s = []
lookup_stop (v ∷ vs) k s = pick (before k v.key) [] (pick (same v.key k && nat_lt v.moment s) (v ∷ []) (lookup_stop vs k s))

-- two tables, the first of them later as a whole: of one key it goes first
unfoldable pub weave : Version → (List Version → List Version) → List Version → List Version
weave x rest [] = x ∷ rest []
weave x rest (y ∷ ys) = pick (before y.key x.key) (y ∷ weave x rest ys) (x ∷ rest (y ∷ ys))

unfoldable pub merge : List Version → List Version → List Version
merge [] ys = ys
merge (x ∷ xs) ys = weave x (λ zs. merge xs zs) ys

-- a walk over a table knows the key it passed last, and whether of that key one below the moment was passed
abbrev pub passed : List ℕ → Bool → Version → Bool
passed k p v = p && same k v.key

-- what's forgotten on the way: what stands behind one of its key below t; and, if nothing older is left, what's gone below t
unfoldable pub kept_from : Bool → ℕ → List ℕ → Bool → List Version → List Version
kept_from oldest t k p [] = []
kept_from oldest t k p (v ∷ vs) =
    pick (nat_lt v.moment t && or (oldest && v.gone) (passed k p v))
    (kept_from oldest t v.key (or (passed k p v) (nat_lt v.moment t)) vs)
    (v ∷ kept_from oldest t v.key (or (passed k p v) (nat_lt v.moment t)) vs)

abbrev pub kept_sorted : ℕ → List Version → List Version
kept_sorted t vs = kept_from true t [] false vs

-- where something older is left, what's gone has to stay
unfoldable pub slim : ℕ → List Version → List Version
slim t [] = []
slim t (v ∷ vs) = pick (nat_lt v.moment t && later_below vs v.key t) (slim t vs) (v ∷ slim t vs)

abbrev pub slim_sorted : ℕ → List Version → List Version
slim_sorted t vs = kept_from false t [] false vs

unfoldable pub visible_from : ℕ → List ℕ → Bool → List Version → List Version
visible_from s k p [] = []
visible_from s k p (v ∷ vs) =
    pick (nat_lt v.moment s && not (or v.gone (passed k p v)))
    (v ∷ visible_from s v.key (or (passed k p v) (nat_lt v.moment s)) vs)
    (visible_from s v.key (or (passed k p v) (nat_lt v.moment s)) vs)

-- a range: from a key on, up to another
unfoldable pub seek : List ℕ → List Version → List Version
seek a [] = []
seek a (v ∷ vs) = pick (before v.key a) (seek a vs) (v ∷ vs)

unfoldable pub until : List (List ℕ) → List Version → List Version
until b [] = []
until b (v ∷ vs) = pick (up_to_key b v.key) (v ∷ until b vs) []

-- runs, the latest first
unfoldable pub all_of : List (List Version) → List Version
all_of [] = []
all_of (r ∷ rs) = all_of rs ++ r

unfoldable pub lookup_runs : List (List Version) → List ℕ → ℕ → List Version
lookup_runs [] k s = []
lookup_runs (r ∷ rs) k s = pick (none_of (lookup r k s)) (lookup_runs rs k s) (lookup r k s)

unfoldable pub merge_runs : List (List Version) → List Version
merge_runs [] = []
merge_runs (r ∷ rs) = merge r (merge_runs rs)

abbrev pub visible : ℕ → List Version → List Version
visible s vs = visible_from s [] false vs

-- of each of these keys the latest version below a moment, an erasure too
unfoldable pub latest_of : List Version → ℕ → List (List ℕ) → List Version
latest_of vs s [] = []
latest_of vs s (k ∷ ks) = latest vs k s ++ latest_of vs s ks

-- THE STATEMENTS. A table is in order, with what came, no more and no less.
abbrev pub SortOrders : Type 0
SortOrders = (vs : List Version) → rising vs ≡ true → in_order (sort vs) ≡ true

abbrev pub SortWeighs : Type 0
SortWeighs = (vs : List Version) → (weight (sort vs) ≡ weight vs) × (length (sort vs) ≡ length vs)

-- What's looked up is the latest.
abbrev pub LookupRight : Type 0
LookupRight = (vs : List Version) (k : List ℕ) (s : ℕ) → (lookup (sort vs) k s ≡ latest vs k s) × (lookup_stop (sort vs) k s ≡ latest vs k s)

-- Two tables merged are the table of both.
abbrev pub MergeRight : Type 0
MergeRight = (vs us : List Version) → merge (sort us) (sort vs) ≡ sort (vs ++ us)

-- A write goes in front of those of its key.
abbrev pub PushRight : Type 0
PushRight = (vs : List Version) (v : Version) → sort (vs ++ v ∷ []) ≡ insert_new v (sort vs)

-- Forgetting is a walk over the table.
abbrev pub ForgetRight : Type 0
ForgetRight = (vs : List Version) (t : ℕ) → (kept_sorted t (sort vs) ≡ sort (kept t vs)) × (slim_sorted t (sort vs) ≡ sort (slim t vs))

-- So is all that's seen, and a range of it.
abbrev pub VisibleRight : Type 0
VisibleRight =
    (vs : List Version) (s : ℕ) →
    (visible s (sort vs) ≡ all_seen vs s) × ((a : List ℕ) (b : List (List ℕ)) → visible s (until b (seek a (sort vs))) ≡ in_range vs s a b)

-- Runs are looked through from the latest, and merged one after another.
abbrev pub RunsRight : Type 0
RunsRight =
    (rs : List (List Version)) →
    ((k : List ℕ) (s : ℕ) → lookup_runs (each sort rs) k s ≡ latest (all_of rs) k s) × (merge_runs (each sort rs) ≡ sort (all_of rs))
