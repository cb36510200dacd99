-- What the code does step by step is what its definition says at once: a version appended, a place entered.
use Rattle.std.proofs.Common.{◌≡◌, ℕ, ◌+◌, ◌-◌, ◌<◌, ◌≤◌, true, false, ◌&&◌, eqb, ltb, leb, min, suc, List, [], ◌∷◌, ◌++◌, length, get_or, take, drop, set, None, sym, refl, ap, ◌∙◌, arith, rules}
use lib.Seq.{paste}
use Rattle.std.proofs.lemmas.Bool.Decides.{nat_tests}
use Rattle.std.proofs.lemmas.Bool.{cases_eq, leb-true, ltb-true, lt-ltb, le-ltb, ne_eqb}
use Rattle.std.proofs.lemmas.List.{same_lists, places, get_or-set_same, length-set}
use Rattle.std.specs.declared.cmp.Ordering.{Ordering}
use Rattle.std.specs.declared.cmp.Ordering.TheVariants.{Less, Equal, Greater}
use Rattle.std.specs.Ordering.{is_eq, is_le, nat_cmp, ordering_then}
use Rattle.std.specs.Bool.{then_some}
use Rattle.value.specs.Count.{smaller}
use Rattle.memtable.specs.Loops.{compare}
use Rattle.value.specs.Versions.{Version}
use Rattle.value.proofs.TestLaws.{and_left_of, and_right_of}
use Rattle.memtable.specs.Words.{words, packed_word, pack, put_row}
use Rattle.memtable.specs.Arena.{moment_at, key_length, key_word, by_length, order_at, wrap, measures, size, encoded, has_room, appended}
use Rattle.memtable.specs.Index.{moved, entered}
use Rattle.memtable.specs.Memtable.{accepts, Countable, one_more, after_one, entries, ahead, ahead_at, seek_place, if_same, found, at_moment, written_at, accepts_it, index_after, arena_after}
use Rattle.memtable.specs.Holds.{RefusedSame}
use Rattle.memtable.specs.declared.memtable.Memtable.{Memtable}
use Rattle.value.proofs.CountLaws.{smaller_is_min}
use Rattle.memtable.proofs.WordLaws.{length_pack, put_one, put_put}

pub room_there : (n used k v : ℕ) → has_room n used k v ≡ true → used + size k v ≤ n
room_there n used k v e = leb-true (used + size k v) n (and_right_of _ (leb (used + size k v) n) e)

pub appended_none : (arena : List ℕ) (used : ℕ) (v : Version) → false ≡ has_room (length arena) used (length v.key) (length v.value) → arena ≡ appended arena used v
unfolding appended
appended_none arena used v e = rw (← e) refl

pub appended_whole : (arena : List ℕ) (used : ℕ) (v : Version) → has_room (length arena) used (length v.key) (length v.value) ≡ true →
    put_row (put_row (set (set arena used (wrap v.moment)) (used + 1) (measures (length v.key) (length v.value) v.gone)) (used + 2) (pack v.key))
    (used + 2 + words (length v.key)) (pack v.value) ≡
    appended arena used v
unfolding appended encoded
appended_whole arena used v e =
    let m = wrap v.moment in
    let h = measures (length v.key) (length v.value) v.gone in
    let r = room_there (length arena) used (length v.key) (length v.value) e in
    let a : set arena used m ≡ put_row arena used (m ∷ []) = put_one arena used m (omega arith) in
    let b : set (set arena used m) (used + 1) h ≡ put_row arena used (m ∷ h ∷ []) =
    put_one (set arena used m) (used + 1) h (simp length-set (omega arith)) ∙ ap (λ ws. put_row ws (used + 1) (h ∷ [])) a
    ∙ put_put arena used (used + 1) (m ∷ []) (h ∷ []) (omega arith) (omega arith) in
    let d : put_row (set (set arena used m) (used + 1) h) (used + 2) (pack v.key) ≡ put_row arena used (m ∷ h ∷ pack v.key) =
    ap (λ ws. put_row ws (used + 2) (pack v.key)) b ∙ put_put arena used (used + 2) (m ∷ h ∷ []) (pack v.key) (omega arith) (omega arith) in
    ap (λ ws. put_row ws (used + 2 + words (length v.key)) (pack v.value)) d
    ∙ put_put arena used (used + 2 + words (length v.key)) (m ∷ h ∷ pack v.key) (pack v.value) (omega (arith, length_pack v.key)) (omega arith)
    ∙ rw e refl

-- the same, by what was written: a moment is below 2^64 there
pub appended_by : (arena with_key whole : List ℕ) (used n h : ℕ) (v : Version) → true ≡ has_room (length arena) used (length v.key) (length v.value) → v.moment < 18446744073709551616 →
    h ≡ measures (length v.key) (length v.value) v.gone → n ≡ words (length v.key) →
    with_key ≡ put_row (set (set arena used v.moment) (used + 1) h) (used + 2) (pack v.key) → whole ≡ put_row with_key (used + 2 + n) (pack v.value) →
    whole ≡ appended arena used v
appended_by arena with_key whole used n h v e small g k f l =
    let w : v.moment ≡ wrap v.moment = omega arith in
    let d : with_key ≡ put_row (set (set arena used (wrap v.moment)) (used + 1) (measures (length v.key) (length v.value) v.gone)) (used + 2) (pack v.key) =
    f ∙ (λ i. put_row (set (set arena used (w i)) (used + 1) (g i)) (used + 2) (pack v.key)) in
    l ∙ (λ i. put_row (d i) (used + 2 + k i) (pack v.value)) ∙ appended_whole arena used v (sym e)

pub entered_none : (index : List ℕ) (n at p : ℕ) → (leb at n && ltb n (length index)) ≡ false → index ≡ entered index n at p
unfolding entered
entered_none index n at p e = rw e refl

pub entered_whole : (index : List ℕ) (n at p : ℕ) → at ≤ n → n < length index → set (paste index (at + 1) (drop at index) (n - at)) at p ≡ entered index n at p
unfolding entered moved
entered_whole index n at p h l =
    let e : (leb at n && ltb n (length index)) ≡ true = grind (arith, nat_tests) in
    let m : set (paste index (at + 1) (drop at index) (n - at)) at p ≡ take at index ++ (p ∷ (take (n - at) (drop at index) ++ drop (n + 1) index)) =
    same_lists _ _ (search (rules, places)) (λ k d h. grind (arith, places, get_or-set_same, cases_eq k at)) in
    m ∙ rw e refl

pub after_none : (t : Memtable) (i a k v : ℕ) → false ≡ accepts t i a k v → t ≡ after_one t i a k v
unfolding after_one
after_none t i a k v e = rw (← e) refl

pub after_whole : (t : Memtable) (i a k v : ℕ) (r : Memtable) → true ≡ accepts t i a k v → r ≡ one_more t k v → r ≡ after_one t i a k v
unfolding after_one
after_whole t i a k v r e q = q ∙ rw (← e) refl

pub record Accepted (t : Memtable) (i a k v : ℕ) : Type 0 where
  pub one : 1 ≤ k
  pub key : k ≤ 255
  pub value : v ≤ 1024
  pub arena : t.used + size k v ≤ a
  pub index : t.versions < i
  pub weight : t.weight + (64 + k + v) ≤ 1048576

pub accepted : (t : Memtable) (i a k v : ℕ) → accepts t i a k v ≡ true → Accepted t i a k v
unfolding accepts
accepted t i a k v e =
    let x = has_room a t.used k v in
    let r = and_left_of (has_room a t.used k v) (ltb t.versions i && leb (t.weight + (64 + k + v)) 1048576) e in
    let l = and_right_of (has_room a t.used k v) (ltb t.versions i && leb (t.weight + (64 + k + v)) 1048576) e in
    let m = and_left_of (leb 1 k && (leb k 255 && leb v 1024)) (leb (t.used + size k v) a) r in
    let n = and_right_of (leb 1 k) (leb k 255 && leb v 1024) m in
    record {
      one = leb-true 1 k (and_left_of (leb 1 k) (leb k 255 && leb v 1024) m);
      key = leb-true k 255 (and_left_of (leb k 255) (leb v 1024) n);
      value = leb-true v 1024 (and_right_of (leb k 255) (leb v 1024) n);
      arena = room_there a t.used k v r;
      index = ltb-true t.versions i (and_left_of (ltb t.versions i) (leb (t.weight + (64 + k + v)) 1048576) l);
      weight = leb-true (t.weight + (64 + k + v)) 1048576 (and_right_of (ltb t.versions i) (leb (t.weight + (64 + k + v)) 1048576) l);
    }

pub countable : (t : Memtable) (i a k v : ℕ) → i < 18446744073709551616 → a < 18446744073709551616 → true ≡ accepts t i a k v → Countable t k v
countable t i a k v p q e =
    let h = accepted t i a k v (sym e) in
    record { key = h.key; value = h.value; versions = omega arith; used = omega arith; weight = omega arith }

-- two keys: the words that both have, and their lengths
pub order_whole : (arena key : List ℕ) (p l m n : ℕ) → l ≡ key_length arena p → m ≡ min l (length key) → n ≡ words m →
    compare (key_word arena p) (packed_word key) n 0 (by_length l (length key)) ≡ order_at arena p key
unfolding order_at
order_whole arena key p l m n e f g =
    let h : n ≡ words (smaller l (length key)) = g ∙ ap words (f ∙ smaller_is_min l (length key)) in
    rw (h, e) refl

pub cmp_lengths : (a b : ℕ) → nat_cmp a b ≡ by_length a b
cmp_lengths a b = grind (arith, nat_tests)

-- one test, by what was read
same_ahead : (r : Ordering) (m s : ℕ) → is_le (ordering_then r (nat_cmp s m)) ≡ ahead r m s
same_ahead Less m s = refl
same_ahead Equal m s = grind (arith, nat_tests)
same_ahead Greater m s = refl

pub ahead_by : (index arena k : List ℕ) (s i p m : ℕ) (r : Ordering) → p ≡ get_or index i 0 → r ≡ order_at arena p k → m ≡ moment_at arena p →
    is_le (ordering_then r (nat_cmp s m)) ≡ ahead_at index arena k s i
unfolding ahead_at
ahead_by index arena k s i p m r e o n = same_ahead r m s ∙ rw (n, o, e) refl

pub found_none : (t : Memtable) (index arena k : List ℕ) (s i : ℕ) → i ≡ seek_place t index arena k s → entries t index ≤ i → None ≡ found t index arena k s
unfolding found
found_none t index arena k s i e h = rw (← e, le-ltb i (entries t index) h) refl

some_same : (r : Ordering) (p : ℕ) → then_some (is_eq r) p ≡ if_same r p
some_same Less p = refl
some_same Equal p = refl
some_same Greater p = refl

pub found_by : (t : Memtable) (index arena k : List ℕ) (s i p : ℕ) (r : Ordering) → i ≡ seek_place t index arena k s → i < entries t index →
    p ≡ get_or index i 0 → r ≡ order_at arena p k → then_some (is_eq r) p ≡ found t index arena k s
unfolding found
found_by t index arena k s i p r e h q o = some_same r p ∙ rw (← e, lt-ltb i (entries t index) h, ← q, o) refl

pub written_none : (t : Memtable) (index arena k : List ℕ) (s i : ℕ) → i ≡ seek_place t index arena k s → i ≡ 0 → false ≡ written_at t index arena k s
unfolding written_at
written_none t index arena k s i e h = rw (← e, h) refl

same_moment : (r : Ordering) (m s : ℕ) → (is_eq r && eqb m s) ≡ at_moment r m s
same_moment Less m s = refl
same_moment Equal m s = refl
same_moment Greater m s = refl

pub written_by : (t : Memtable) (index arena k : List ℕ) (s i p m : ℕ) (r : Ordering) → suc i ≡ seek_place t index arena k s →
    p ≡ get_or index i 0 → r ≡ order_at arena p k → m ≡ moment_at arena p → (is_eq r && eqb m s) ≡ written_at t index arena k s
unfolding written_at
written_by t index arena k s i p m r e q o n =
    let z : suc i - 1 ≡ i = omega arith in
    same_moment r m s ∙ rw (← e, n, ne_eqb (suc i) 0 (omega arith), z, ← q, o) refl

-- an insertion, by its parts
pub index_none : (t : Memtable) (index arena : List ℕ) (v : Version) → false ≡ accepts_it t index arena v → index ≡ index_after t index arena v
unfolding index_after
index_none t index arena v e = rw (← e) refl

pub index_whole : (t : Memtable) (index arena : List ℕ) (v : Version) (at : ℕ) (r : List ℕ) → true ≡ accepts_it t index arena v →
    at ≡ seek_place t index arena v.key v.moment → r ≡ entered index t.versions at t.used → r ≡ index_after t index arena v
unfolding index_after
index_whole t index arena v at r e q f = f ∙ rw (← e, q) refl

pub arena_none : (t : Memtable) (index arena : List ℕ) (v : Version) → false ≡ accepts_it t index arena v → arena ≡ arena_after t index arena v
unfolding arena_after
arena_none t index arena v e = rw (← e) refl

pub arena_whole : (t : Memtable) (index arena : List ℕ) (v : Version) (r : List ℕ) → true ≡ accepts_it t index arena v → r ≡ appended arena t.used v →
    r ≡ arena_after t index arena v
unfolding arena_after
arena_whole t index arena v r e f = f ∙ rw (← e) refl

pub accepts_room : (t : Memtable) (i a k v : ℕ) → accepts t i a k v ≡ true → has_room a t.used k v ≡ true
unfolding accepts
accepts_room t i a k v e = and_left_of (has_room a t.used k v) (ltb t.versions i && leb (t.weight + (64 + k + v)) 1048576) e

pub refused_same : RefusedSame
unfolding accepts
refused_same index arena t v = (
  λ e. (
    sym (index_none t index arena v (sym e)),
    sym (arena_none t index arena v (sym e)),
    sym (after_none t (length index) (length arena) (length v.key) (length v.value) (sym e)),
  ),
  λ e. rw e refl,
)
