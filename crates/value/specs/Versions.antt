-- Versions of keys, and which of them is seen at a moment: all answers of the store are said over one list of versions, in the order in which they came.
use Rattle.std.specs.Prelude.{ℕ, ◌+◌, Bool, true, false, not, ◌&&◌, List, [], ◌∷◌, ◌++◌, length, ◌==◌, nat_lt}

abbrev pub pick : {A : Type 0} → Bool → A → A → A
pick true a b = a
pick false a b = b

abbrev pub or : Bool → Bool → Bool
or true b = true
or false b = b

unfoldable pub every : {A : Type 0} → (A → Bool) → List A → Bool
every f [] = true
every f (x ∷ xs) = f x && every f xs

unfoldable pub any : {A : Type 0} → (A → Bool) → List A → Bool
any f [] = false
any f (x ∷ xs) = or (f x) (any f xs)

unfoldable pub those : {A : Type 0} → (A → Bool) → List A → List A
those f [] = []
those f (x ∷ xs) = pick (f x) (x ∷ those f xs) (those f xs)

unfoldable pub each : {A B : Type 0} → (A → B) → List A → List B
each f [] = []
each f (x ∷ xs) = f x ∷ each f xs

unfoldable pub none_of : {A : Type 0} → List A → Bool
none_of [] = true
none_of (x ∷ xs) = false

unfoldable pub same : List ℕ → List ℕ → Bool
same [] [] = true
same [] (y ∷ ys) = false
same (x ∷ xs) [] = false
same (x ∷ xs) (y ∷ ys) = x == y && same xs ys

-- the order of keys: by bytes, a beginning before what it begins
unfoldable pub before : List ℕ → List ℕ → Bool
before [] [] = false
before [] (y ∷ ys) = true
before (x ∷ xs) [] = false
before (x ∷ xs) (y ∷ ys) = or (nat_lt x y) (x == y && before xs ys)

unfoldable pub begins : List ℕ → List ℕ → Bool
begins [] bs = true
begins (x ∷ xs) [] = false
begins (x ∷ xs) (y ∷ ys) = x == y && begins xs ys

-- a version: a key, the moment of its writing, and a value, or that there's none any more
pub record Version : Type 0 where
  pub key : List ℕ
  pub moment : ℕ
  pub gone : Bool
  pub value : List ℕ

abbrev pub version : List ℕ → ℕ → Bool → List ℕ → Version
version k m g v = record { key = k; moment = m; gone = g; value = v }

-- WHAT'S SEEN at s: of a key's versions with a moment below s the latest; versions stand in the order in which they came, so it's the last
unfoldable pub latest : List Version → List ℕ → ℕ → List Version
latest [] k s = []
latest (v ∷ vs) k s =
    pick (none_of (latest vs k s)) (pick (same v.key k && nat_lt v.moment s) (v ∷ []) []) (latest vs k s)

abbrev pub living : List Version → List Version
living vs = those (λ v. not v.gone) vs

abbrev pub seen : List Version → List ℕ → ℕ → List Version
seen vs k s = living (latest vs k s)

-- ALL THAT'S SEEN, by keys in order, each once
unfoldable pub insert_key : List ℕ → List (List ℕ) → List (List ℕ)
insert_key k [] = k ∷ []
insert_key k (j ∷ js) = pick (same k j) (j ∷ js) (pick (before k j) (k ∷ j ∷ js) (j ∷ insert_key k js))

unfoldable pub all_keys : List Version → List (List ℕ)
all_keys [] = []
all_keys (v ∷ vs) = insert_key v.key (all_keys vs)

unfoldable pub seen_of : List Version → ℕ → List (List ℕ) → List Version
seen_of vs s [] = []
seen_of vs s (k ∷ ks) = seen vs k s ++ seen_of vs s ks

abbrev pub all_seen : List Version → ℕ → List Version
all_seen vs s = seen_of vs s (all_keys vs)

-- from a key on, up to another, which doesn't belong to them; no key means no end
unfoldable pub from_key : List ℕ → List ℕ → Bool
from_key a k = not (before k a)

unfoldable pub up_to_key : List (List ℕ) → List ℕ → Bool
up_to_key [] k = true
up_to_key (b ∷ bs) k = before k b

abbrev pub in_range : List Version → ℕ → List ℕ → List (List ℕ) → List Version
in_range vs s a b = those (λ v. from_key a v.key && up_to_key b v.key) (all_seen vs s)

-- WHAT MAY BE FORGOTTEN, if nobody asks for a moment below t: of each key all versions before the latest one below t, and that one as well if it says that it's gone
unfoldable pub later_below : List Version → List ℕ → ℕ → Bool
later_below vs k t = any (λ v. same v.key k && nat_lt v.moment t) vs

unfoldable pub kept : ℕ → List Version → List Version
kept t [] = []
kept t (v ∷ vs) =
    pick (nat_lt v.moment t && or v.gone (later_below vs v.key t)) (kept t vs) (v ∷ kept t vs)

-- HOW MUCH there is
unfoldable pub added_up : {A : Type 0} → (A → ℕ) → List A → ℕ
added_up f [] = 0
added_up f (x ∷ xs) = f x + added_up f xs

abbrev pub weight : List Version → ℕ
weight vs = added_up (λ v. 64 + length v.key + length v.value) vs
