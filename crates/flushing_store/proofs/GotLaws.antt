-- What a get shows: what memory has of the key, and where it has nothing what the table has; in one row or none.
use Rattle.std.proofs.Common.{◌≡◌, ℕ, ◌≤◌, Bool, true, false, not, ◌&&◌, eqb, ltb, leb, List, [], ◌∷◌, ◌++◌, length, take, sym, refl, ap, ◌∙◌, arith, length-append, le-leb}
use Rattle.std.proofs.lemmas.List.{take_all}
use Rattle.value.specs.Versions.{pick, every, those, each, none_of, same, Version, latest}
use Rattle.value.specs.Rising.{rising}
use Rattle.value.specs.Numbers.{all_bytes}
use Rattle.value.specs.Encoding.{in_limits, fits}
use Rattle.value.proofs.EncodingLaws.{limits_parts}
use Rattle.value.proofs.KeyLaws.{same_eq}
use Rattle.value.proofs.LatestLaws.{later_first}
use Rattle.value.proofs.TestLaws.{clash, and_left_of, and_right_of}
use Rattle.memtable.specs.Words.{bytes}
use Rattle.memtable.specs.Arena.{key_length, key_at, value_at, version_at}
use Rattle.memtable.specs.Memtable.{found}
use Rattle.memtable.specs.Holds.{as_list}
use Rattle.memtable.specs.Holds as mem
use Rattle.memtable.proofs.WordLaws.{length_row}
use Rattle.memtable.proofs.ReadLaws.{fits_parts}
use Rattle.memtable.proofs.AnswerLaws.{find_right}
use Rattle.manifest.specs.declared.fields.Manifest.{Manifest}
use Rattle.store.specs.House.{House, get, a_key, shown_as, shows}
use Rattle.flushing_store.specs.Control.{control_of}
use Rattle.store.specs.Regions.{index_of, arena_of, sought}
use Rattle.store.specs.Shown.{row_at, row_of}
use Rattle.flushing_store.specs.declared.control.Phase.{Phase}
use Rattle.flushing_store.proofs.HeldLaws.{Held}

-- LISTS OF VERSIONS
pub rising_back : (xs ys : List Version) → rising (xs ++ ys) ≡ true → rising ys ≡ true
unfolding rising
rising_back [] ys r = r
rising_back (x ∷ xs) ys r = rising_back xs ys (and_right_of (every (λ u. leb x.moment u.moment && not (same x.key u.key && eqb x.moment u.moment)) (xs ++ ys)) (rising (xs ++ ys)) r)

-- what holds of all versions holds of the latest
latest_every : (f : Version → Bool) (vs : List Version) (k : List ℕ) (s : ℕ) → every f vs ≡ true → every f (latest vs k s) ≡ true
unfolding every latest none_of
latest_every f [] k s h = refl
latest_every f (v ∷ vs) k s h = go (latest vs k s) (same v.key k && ltb v.moment s) (latest_every f vs k s (and_right_of (f v) (every f vs) h))
  where
    go : (l : List Version) (b : Bool) → every f l ≡ true → every f (pick (none_of l) (pick b (v ∷ []) []) l) ≡ true
    go [] true e = rw (and_left_of (f v) (every f vs) h) refl
    go [] false e = refl
    go (x ∷ xs) b e = e

pub latest_has : (f : Version → Bool) (vs : List Version) (k : List ℕ) (s : ℕ) (v : Version) → latest vs k s ≡ v ∷ [] → every f vs ≡ true → f v ≡ true
unfolding every
latest_has f vs k s v e h = and_left_of (f v) true (rw e at (latest_every f vs k s h))

-- a version that fits has a key that is one
fits_key : (v : Version) → fits v ≡ true → a_key v.key ≡ true
fits_key v f =
    let l = limits_parts (length v.key) v.moment v.gone (length v.value) (and_left_of (in_limits v) (all_bytes v.key && all_bytes v.value) f) in
    rw (le-leb 1 (length v.key) (omega arith), le-leb (length v.key) 255 (omega arith)) refl

-- so what is no key has no version
pub no_key_none : (vs : List Version) (k : List ℕ) (s : ℕ) → every fits vs ≡ true → a_key k ≡ false → latest vs k s ≡ []
unfolding every latest none_of
no_key_none [] k s h a = refl
no_key_none (v ∷ vs) k s h a = rw (no_key_none vs k s (and_right_of (fits v) (every fits vs) h) a) (go (same v.key k) refl)
  where
    go : (b : Bool) → same v.key k ≡ b → pick (b && ltb v.moment s) (v ∷ []) [] ≡ []
    go true e = clash (a_key k) (ap a_key (sym (same_eq v.key k e)) ∙ fits_key v (and_left_of (fits v) (every fits vs) h)) a
    go false e = refl

-- ROWS
pub row_is : (k v : List ℕ) (x : Version) → fits x ≡ true → k ≡ x.key → v ≡ x.value → (row_of k v ≡ shown_as x) × (leb (length (row_of k v)) 1280 ≡ true)
unfolding row_of
row_is k v x f a b =
    let l = limits_parts (length x.key) x.moment x.gone (length x.value) (and_left_of (in_limits x) (all_bytes x.key && all_bytes x.value) f) in
    let n : length (length k ∷ (k ++ v)) ≤ 1280 = omega (arith, length-append k v, ap length a, ap length b) in
    let all : take 1280 (length k ∷ (k ++ v)) ≡ length k ∷ (k ++ v) = take_all 1280 (length k ∷ (k ++ v)) n in
    (all ∙ (λ i. length (a i) ∷ (a i ++ b i)), ap (λ y. leb (length y) 1280) all ∙ le-leb (length (length k ∷ (k ++ v))) 1280 n)

pub row_at_is : (a : List ℕ) (p : ℕ) → mem.fits (version_at a p) ≡ true → (row_at a p ≡ shown_as (version_at a p)) × (leb (length (row_at a p)) 1280 ≡ true)
unfolding row_at version_at
row_at_is a p f =
    let ks = key_at a p in
    let vs = value_at a p in
    let l = fits_parts (version_at a p) f in
    let n : length (key_length a p ∷ (ks ++ vs)) ≤ 1280 = omega (arith, length-append ks vs, l.key_long, l.value_long) in
    let all : take 1280 (key_length a p ∷ (ks ++ vs)) ≡ key_length a p ∷ (ks ++ vs) = take_all 1280 (key_length a p ∷ (ks ++ vs)) n in
    (all ∙ ap (λ x. x ∷ (ks ++ vs)) (sym (length_row a p 2 (key_length a p))), ap (λ x. leb (length x) 1280) all ∙ le-leb (length (key_length a p ∷ (ks ++ vs))) 1280 n)

-- WHAT IS SHOWN
module _ (h : House) (key : List ℕ) (s : ℕ) where
  pub shows_none : latest h.versions key s ≡ [] → shows h (get key s) ≡ []
  unfolding shows those each
  shows_none e = rw e refl

  pub shows_gone : (v : Version) → latest h.versions key s ≡ v ∷ [] → v.gone ≡ true → shows h (get key s) ≡ []
  unfolding shows those each
  shows_gone v e g = rw (e, g) refl

  pub shows_one : (v : Version) → latest h.versions key s ≡ v ∷ [] → v.gone ≡ false → shows h (get key s) ≡ shown_as v ∷ []
  unfolding shows those each
  shows_one v e g = rw (e, g) refl

  module _ (us : List Version) (all : h.versions ≡ h.safe ++ us) where
    latest_all : latest h.versions key s ≡ pick (none_of (latest us key s)) (latest h.safe key s) (latest us key s)
    latest_all = ap (λ y. latest y key s) all ∙ later_first h.safe us key s

    -- memory decides
    pub memory_first : (v : Version) → latest us key s ≡ v ∷ [] → latest h.versions key s ≡ v ∷ []
    unfolding none_of
    memory_first v e = latest_all ∙ rw e refl

    -- the table does
    pub table_then : latest us key s ≡ [] → latest h.versions key s ≡ latest h.safe key s
    unfolding none_of
    table_then e = latest_all ∙ rw e refl

-- what memory finds
pub found_is : (pages : ℕ) (h : House) (f : Manifest) (p : Phase) (m key : List ℕ) (s : ℕ) (o : Held pages h f p m) → bytes key ≡ true →
    each (version_at (arena_of m)) (as_list (sought (control_of m).base.table m key s)) ≡ latest o.fresh key s
unfolding sought
found_is pages h f p m key s o b =
    ap (λ t. each (version_at (arena_of m)) (as_list (found t.table (index_of m) (arena_of m) key s))) o.base_is
    ∙ find_right (index_of m) (arena_of m) o.table o.fresh key s o.holds (rising_back h.safe o.fresh (ap rising (sym o.all_is) ∙ o.rises)) b
