-- What a memtable that holds a list tells of each place of its index, and where a search in it ends.
use Rattle.std.proofs.Common.{◌≡◌, ℕ, zero, suc, ◌*◌, ◌^◌, ◌<◌, ◌≤◌, true, List, [], ◌∷◌, length, get_or, take, sym, refl, ap, ◌∙◌, subst, inl, inr, arith}
use Rattle.std.proofs.ByRecursion.{All-get_or}
use Rattle.std.proofs.lemmas.List.{get_or-take, length-take, length-append}
use Rattle.std.proofs.lemmas.Bool.{cases_lt, lt-ltb, le-ltb}
use Rattle.value.specs.Versions.{every, each, Version, added_up, weight}
use Rattle.value.specs.Rising.{rising}
use Rattle.value.specs.Sorted.{sort}
use Rattle.value.proofs.TestLaws.{and_left_of, and_right_of}
use Rattle.value.proofs.SortLaws.{sort_every, sort_length, sort_orders}
use Rattle.memtable.specs.Words.{bytes}
use Rattle.memtable.specs.Loops.{bisect}
use Rattle.memtable.specs.Arena.{version_at, moment_at, encoded, order_at}
use Rattle.memtable.specs.Memtable.{entries, ahead, ahead_at, seek_place}
use Rattle.memtable.specs.Holds.{fits, encode_all, Stands, goes_before, Holds}
use Rattle.memtable.specs.declared.memtable.Memtable.{Memtable}
use Rattle.memtable.proofs.LoopLaws.{Parts, bisect_parts}
use Rattle.memtable.proofs.KeyOrderLaws.{ordered}
use Rattle.memtable.proofs.ReadLaws.{fits_parts, length_encoded, order_read}
use Rattle.memtable.proofs.SearchLaws.{stretch, stretch_is, ahead_goes, every_get_or, goes_falls}

pub length_each : {A B : Type 0} (f : A → B) (xs : List A) → length (each f xs) ≡ length xs
unfolding each
length_each f [] = refl
length_each f (x ∷ xs) = ap suc (length_each f xs)

pub get_or_each : {A B : Type 0} (f : A → B) (xs : List A) (i : ℕ) (d : A) (e : B) → i < length xs → get_or (each f xs) i e ≡ f (get_or xs i d)
unfolding each
get_or_each f [] i d e h = absurd (omega arith)
get_or_each f (x ∷ xs) zero d e h = refl
get_or_each f (x ∷ xs) (suc i) d e h = get_or_each f xs i d e (omega arith)

-- WEIGHTS AND SIZES
pub record Sized (vs : List Version) : Type 0 where
  pub count : 65 * length vs ≤ weight vs
  pub used : 8 * length (encode_all vs) ≤ weight vs

pub sized : (vs : List Version) → every fits vs ≡ true → Sized vs
unfolding every added_up encode_all
sized [] h = record { count = omega arith; used = omega arith }
sized (v ∷ vs) h =
    let f = fits_parts v (and_left_of (fits v) (every fits vs) h) in
    let s = sized vs (and_right_of (fits v) (every fits vs) h) in
    let n = length_encoded v in
    let l = length-append (encoded v) (encode_all vs) in
    record { count = omega arith; used = omega arith }

-- THE PLACES OF THE INDEX
pub record Counted (index : List ℕ) (t : Memtable) (vs : List Version) : Type 0 where
  pub within : t.versions ≤ length index
  pub all : length (take t.versions index) ≡ t.versions
  pub sorted : length (sort vs) ≡ t.versions
  pub entered : entries t index ≡ t.versions
  pub few : t.versions < 2 ^ 64

pub counts : (index arena : List ℕ) (t : Memtable) (vs : List Version) → Holds index arena t vs → Counted index t vs
counts index arena t vs h =
    let s = sort_length vs in
    let a : length (take t.versions index) ≡ t.versions = sym (length_each (version_at arena) (take t.versions index)) ∙ ap length h.sorted ∙ s ∙ sym h.counted in
    let w : t.versions ≤ length index = omega (arith, a, length-take t.versions index) in
    let z = sized vs h.fit in
    record {
      within = w;
      all = a;
      sorted = s ∙ sym h.counted;
      entered = elim (cases_lt t.versions (length index)) [
        | inl l ↦ rw (lt-ltb t.versions (length index) l) refl
        | inr l ↦ rw (le-ltb t.versions (length index) l) (omega arith)
      ];
      few = omega (arith, h.counted, h.light, z.count);
    }

-- place i of the index
pub record There (index arena : List ℕ) (t : Memtable) (vs : List Version) (i : ℕ) : Type 0 where
  pub stands : Stands (take t.used arena) (get_or index i 0) (version_at arena (get_or index i 0))
  pub fit : fits (version_at arena (get_or index i 0)) ≡ true
  pub nth : (d : Version) → get_or (sort vs) i d ≡ version_at arena (get_or index i 0)

pub there : (index arena : List ℕ) (t : Memtable) (vs : List Version) → Holds index arena t vs → (i : ℕ) → i < t.versions → There index arena t vs i
there index arena t vs h i l =
    let c = counts index arena t vs h in
    let p : get_or (take t.versions index) i 0 ≡ get_or index i 0 = get_or-take t.versions index i 0 l in
    let m : i < length (take t.versions index) = omega (arith, c.all) in
    let n : (d : Version) → get_or (sort vs) i d ≡ version_at arena (get_or index i 0) =
    λ d. ap (λ us. get_or us i d) (sym h.sorted) ∙ get_or_each (version_at arena) (take t.versions index) i 0 d m ∙ ap (version_at arena) p in
    let d : Version = version_at arena 0 in
    record {
      stands = subst (λ q. Stands (take t.used arena) q (version_at arena q)) p
          (All-get_or (λ q. Stands (take t.used arena) q (version_at arena q)) (take t.versions index) i 0 m h.stand);
      fit = ap fits (sym (n (version_at arena 0)))
          ∙ every_get_or fits (sort vs) i (version_at arena 0) (omega (arith, c.sorted)) (sort_every fits vs ∙ h.fit);
      nth = n;
    }

-- the order of a key there
pub order_there : (index arena : List ℕ) (t : Memtable) (vs : List Version) (k : List ℕ) → Holds index arena t vs → bytes k ≡ true → (i : ℕ) → i < t.versions →
    order_at arena (get_or index i 0) k ≡ ordered (version_at arena (get_or index i 0)).key k
order_there index arena t vs k h b i l =
    let x = there index arena t vs h i l in
    order_read arena t.used (get_or index i 0) (version_at arena (get_or index i 0)) k x.fit x.stands b

ahead_there : (index arena : List ℕ) (t : Memtable) (vs : List Version) (k : List ℕ) (s : ℕ) (d : Version) → Holds index arena t vs → bytes k ≡ true → (i : ℕ) → i < t.versions →
    ahead_at index arena k s i ≡ goes_before k s (get_or (sort vs) i d)
unfolding ahead_at version_at
ahead_there index arena t vs k s d h b i l =
    let x = there index arena t vs h i l in
    ap (λ o. ahead o (moment_at arena (get_or index i 0)) s) (order_there index arena t vs k h b i l)
    ∙ ahead_goes k s (version_at arena (get_or index i 0))
    ∙ ap (goes_before k s) (sym (x.nth d))

-- WHERE A SEARCH ENDS
pub seek_is : (index arena : List ℕ) (t : Memtable) (vs : List Version) (k : List ℕ) (s : ℕ) → Holds index arena t vs → rising vs ≡ true → bytes k ≡ true →
    seek_place t index arena k s ≡ stretch (goes_before k s) (sort vs)
unfolding seek_place
seek_is index arena t vs k s h r b =
    let c = counts index arena t vs h in
    let d : Version = version_at arena 0 in
    let o = sort_orders vs r in
    let test : (i : ℕ) → i < t.versions → ahead_at index arena k s i ≡ goes_before k s (get_or (sort vs) i d) = λ i l. ahead_there index arena t vs k s d h b i l in
    let p : Parts (ahead_at index arena k s) t.versions (bisect (ahead_at index arena k s) 64 0 t.versions) =
    bisect_parts (ahead_at index arena k s) t.versions
    (λ i j g l e. test i (omega arith) ∙ goes_falls k s (sort vs) d o i j g (omega (arith, c.sorted)) (sym (test j l) ∙ e))
    64 0 t.versions (omega arith) (omega arith) (omega (arith, c.few)) (λ i l. absurd (omega arith)) (λ i g l. absurd (omega arith)) in
    ap (bisect (ahead_at index arena k s) 64 0) c.entered
    ∙ stretch_is (goes_before k s) (sort vs) (bisect (ahead_at index arena k s) 64 0 t.versions) d (omega (arith, c.sorted, p.within))
    (λ i l. sym (test i (omega (arith, p.within))) ∙ p.low i l)
    (λ i g l. sym (test i (omega (arith, c.sorted))) ∙ p.high i g (omega (arith, c.sorted)))
