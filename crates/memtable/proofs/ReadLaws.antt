-- A version whose words stand in the arena is read as it was written, and its key compares as a key.
use Rattle.std.proofs.Common.{◌≡◌, ℕ, suc, ◌+◌, ◌*◌, ◌/◌, ◌%◌, ◌<◌, ◌≤◌, Bool, true, false, ◌&&◌, eqb, ltb, leb, List, length, get_or, take, drop, sym, refl, ap, ◌∙◌, arith}
use Rattle.std.proofs.lemmas.Bool.{ltb-true, leb-true}
use Rattle.std.proofs.lemmas.List.{get_or-take, get_or-drop, get_or_append_left, get_or-append-add, length-take, length-drop, length-append}
use Rattle.value.specs.Versions.{Version, version}
use Rattle.value.specs.Count.{smaller}
use Rattle.value.proofs.TestLaws.{and_left_of, and_right_of}
use Rattle.memtable.specs.Words.{bytes, words, packed_word, pack}
use Rattle.memtable.specs.Loops.{compare}
use Rattle.memtable.specs.Arena.{moment_at, key_length, value_length, gone_at, key_at, value_at, version_at, wrap, measures, size, encoded, key_word, by_length, order_at}
use Rattle.memtable.specs.Holds.{fits, Stands}
use Rattle.value.proofs.CountLaws.{smaller_is_min}
use Rattle.memtable.proofs.WordLaws.{length_pack, get_or_pack}
use Rattle.memtable.proofs.PackLaws.{row_packed, compare_like}
use Rattle.memtable.proofs.KeyOrderLaws.{ordered, words_order}

pub record Fits (v : Version) : Type 0 where
  pub one : 1 ≤ length v.key
  pub key_long : length v.key ≤ 255
  pub value_long : length v.value ≤ 1024
  pub key_bytes : bytes v.key ≡ true
  pub value_bytes : bytes v.value ≡ true
  pub moment_small : v.moment < 18446744073709551616

pub fits_parts : (v : Version) → fits v ≡ true → Fits v
unfolding fits
fits_parts v e =
    let l = and_left_of (leb 1 (length v.key) && (leb (length v.key) 255 && leb (length v.value) 1024))
    ((bytes v.key && bytes v.value) && ltb v.moment 18446744073709551616) e in
    let r = and_right_of (leb 1 (length v.key) && (leb (length v.key) 255 && leb (length v.value) 1024))
    ((bytes v.key && bytes v.value) && ltb v.moment 18446744073709551616) e in
    let m = and_right_of (leb 1 (length v.key)) (leb (length v.key) 255 && leb (length v.value) 1024) l in
    let b = and_left_of (bytes v.key && bytes v.value) (ltb v.moment 18446744073709551616) r in
    record {
      one = leb-true 1 (length v.key) (and_left_of (leb 1 (length v.key)) (leb (length v.key) 255 && leb (length v.value) 1024) l);
      key_long = leb-true (length v.key) 255 (and_left_of (leb (length v.key) 255) (leb (length v.value) 1024) m);
      value_long = leb-true (length v.value) 1024 (and_right_of (leb (length v.key) 255) (leb (length v.value) 1024) m);
      key_bytes = and_left_of (bytes v.key) (bytes v.value) b;
      value_bytes = and_right_of (bytes v.key) (bytes v.value) b;
      moment_small = ltb-true v.moment 18446744073709551616 (and_right_of (bytes v.key && bytes v.value) (ltb v.moment 18446744073709551616) r);
    }

pub length_encoded : (v : Version) → length (encoded v) ≡ size (length v.key) (length v.value)
unfolding encoded
length_encoded v = omega (arith, length-append (pack v.key) (pack v.value), length_pack v.key, length_pack v.value)

-- word j of a version that stands at p
pub word_read : (arena : List ℕ) (u p : ℕ) (v : Version) → Stands (take u arena) p v → (j : ℕ) → j < length (encoded v) → get_or arena (p + j) 0 ≡ get_or (encoded v) j 0
unfolding Stands
word_read arena u p v s j h =
    let n = ap length s in
    let l : p + j < u = omega (arith, n, length-take (length (encoded v)) (drop p (take u arena)), length-drop p (take u arena), length-take u arena) in
    sym (get_or-take u arena (p + j) 0 l) ∙ sym (get_or-drop p (take u arena) j 0) ∙ sym (get_or-take (length (encoded v)) (drop p (take u arena)) j 0 h)
    ∙ ap (λ xs. get_or xs j 0) s

key_words : (v : Version) (k : ℕ) → k < words (length v.key) → get_or (encoded v) (2 + k) 0 ≡ packed_word v.key k
unfolding encoded packed_word
key_words v k h =
    let e : 2 + k ≡ suc (suc k) = omega arith in
    ap (λ j. get_or (encoded v) j 0) e
    ∙ get_or_append_left (pack v.key) (pack v.value) 0 k (omega (arith, length_pack v.key))
    ∙ get_or_pack v.key k h

value_words : (v : Version) (k : ℕ) → k < words (length v.value) → get_or (encoded v) (2 + words (length v.key) + k) 0 ≡ packed_word v.value k
unfolding encoded packed_word
value_words v k h =
    let e : 2 + words (length v.key) + k ≡ suc (suc (length (pack v.key) + k)) = omega (arith, length_pack v.key) in
    ap (λ j. get_or (encoded v) j 0) e
    ∙ get_or-append-add (pack v.key) (pack v.value) k 0
    ∙ get_or_pack v.value k h

first_word : (v : Version) → get_or (encoded v) 0 0 ≡ wrap v.moment
unfolding encoded
first_word v = refl

second_word : (v : Version) → get_or (encoded v) 1 0 ≡ measures (length v.key) (length v.value) v.gone
unfolding encoded
second_word v = refl

key_measure : (k v : ℕ) (g : Bool) → k ≤ 255 → measures k v g % 256 ≡ k
key_measure k v true h = omega arith
key_measure k v false h = omega arith

value_measure : (k v : ℕ) (g : Bool) → k ≤ 255 → v ≤ 1024 → measures k v g / 256 % 4096 ≡ v
value_measure k v true h l = omega arith
value_measure k v false h l = omega arith

gone_measure : (k v : ℕ) (g : Bool) → k ≤ 255 → v ≤ 1024 → eqb (measures k v g / 1048576 % 2) 1 ≡ g
gone_measure k v true h l = let e : (k + (256 * v + 1048576)) / 1048576 % 2 ≡ 1 = omega arith in rw e refl
gone_measure k v false h l = let e : (k + (256 * v + 0)) / 1048576 % 2 ≡ 0 = omega arith in rw e refl

pub record Read (arena : List ℕ) (p : ℕ) (v : Version) : Type 0 where
  pub moment : get_or arena p 0 ≡ v.moment
  pub key_length_is : key_length arena p ≡ length v.key
  pub value_length_is : value_length arena p ≡ length v.value
  pub gone_is : gone_at arena p ≡ v.gone
  pub key_words_are : (k : ℕ) → k < words (length v.key) → get_or arena (p + (2 + k)) 0 ≡ packed_word v.key k
  pub value_words_are : (k : ℕ) → k < words (length v.value) → get_or arena (p + (2 + words (length v.key) + k)) 0 ≡ packed_word v.value k

pub reads : (arena : List ℕ) (u p : ℕ) (v : Version) → fits v ≡ true → Stands (take u arena) p v → Read arena p v
reads arena u p v f s =
    let h = fits_parts v f in
    let n = length_encoded v in
    let z : p + 0 ≡ p = omega arith in
    let m = second_word v in
    let w : get_or arena (p + 1) 0 ≡ measures (length v.key) (length v.value) v.gone = word_read arena u p v s 1 (omega arith) ∙ second_word v in
    let mo : wrap v.moment ≡ v.moment = omega arith in
    record {
      moment = ap (λ i. get_or arena i 0) (sym z) ∙ word_read arena u p v s 0 (omega arith) ∙ first_word v ∙ mo;
      key_length_is = ap (λ x. x % 256) w ∙ key_measure (length v.key) (length v.value) v.gone h.key_long;
      value_length_is = ap (λ x. x / 256 % 4096) w ∙ value_measure (length v.key) (length v.value) v.gone h.key_long h.value_long;
      gone_is = ap (λ x. eqb (x / 1048576 % 2) 1) w ∙ gone_measure (length v.key) (length v.value) v.gone h.key_long h.value_long;
      key_words_are = λ k l. word_read arena u p v s (2 + k) (omega arith) ∙ key_words v k l;
      value_words_are = λ k l. word_read arena u p v s (2 + words (length v.key) + k) (omega arith) ∙ value_words v k l;
    }

version_like : (k k₁ : List ℕ) (m m₁ : ℕ) (g g₁ : Bool) (w w₁ : List ℕ) → k ≡ k₁ → m ≡ m₁ → g ≡ g₁ → w ≡ w₁ → version k m g w ≡ version k₁ m₁ g₁ w₁
version_like k k₁ m m₁ g g₁ w w₁ a b c d = cc

pub version_read : (arena : List ℕ) (u p : ℕ) (v : Version) → fits v ≡ true → Stands (take u arena) p v → version_at arena p ≡ v
unfolding version_at
version_read arena u p v f s =
    let h = fits_parts v f in
    let r = reads arena u p v f s in
    version_like (key_at arena p) v.key (moment_at arena p) v.moment (gone_at arena p) v.gone (value_at arena p) v.value
    (row_packed arena v.key p 2 (key_length arena p) h.key_bytes (sym r.key_length_is) (λ k l. r.key_words_are k (rw r.key_length_is at l)))
    r.moment
    r.gone_is
    (row_packed arena v.value p (2 + words (key_length arena p)) (value_length arena p) h.value_bytes (sym r.value_length_is)
    (λ k l. ap (λ n. get_or arena (p + (2 + words n + k)) 0) r.key_length_is ∙ r.value_words_are k (rw r.value_length_is at l)))

pub order_read : (arena : List ℕ) (u p : ℕ) (v : Version) (k : List ℕ) → fits v ≡ true → Stands (take u arena) p v → bytes k ≡ true → order_at arena p k ≡ ordered v.key k
unfolding order_at key_word
order_read arena u p v k f s b =
    let h = fits_parts v f in
    let r = reads arena u p v f s in
    ap (λ n. compare (key_word arena p) (packed_word k) (words (smaller n (length k))) 0 (by_length n (length k))) r.key_length_is
    ∙ compare_like (key_word arena p) (packed_word k) (packed_word v.key) (packed_word k) (words (smaller (length v.key) (length k))) 0 (by_length (length v.key) (length k))
    (λ i g l. r.key_words_are i (smaller_words (length v.key) (length k) i l)) (λ i g l. refl)
    ∙ words_order v.key k h.key_bytes b
  where
    smaller_words : (a c i : ℕ) → i < 0 + words (smaller a c) → i < words a
    smaller_words a c i l = omega (arith, smaller_is_min a c)
