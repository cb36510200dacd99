-- On any words a write keeps how many there are, and that they have 64 bits.
use Rattle.std.proofs.Common.{◌≡◌, ℕ, zero, suc, ◌+◌, ◌-◌, ◌*◌, ◌<◌, ◌≤◌, Bool, true, false, ◌&&◌, ltb, leb, List, [], ◌∷◌, ◌++◌, map, length, take, drop, refl, ◌∙◌, arith}
use Rattle.std.specs.List.{range_with_len}
use Rattle.std.proofs.lemmas.Bool.{lt-ltb, ltb-true, leb-true}
use Rattle.std.proofs.lemmas.List.{length-append, length-take, length-drop}
use Rattle.value.specs.Versions.{pick, every, Version}
use Rattle.value.proofs.TestLaws.{and_left_of, and_right_of, every_append}
use Rattle.memtable.specs.Words.{word, words, packed_word, pack, put_row}
use Rattle.memtable.specs.Arena.{wrap, measures, encoded, has_room, appended}
use Rattle.memtable.specs.Index.{moved, entered}
use Rattle.memtable.specs.Memtable.{accepts_it, seek_place, index_after, arena_after}
use Rattle.memtable.specs.Holds.{small, AppendKeeps, EnterKeeps, InsertKeeps}
use Rattle.memtable.proofs.WordLaws.{length_put}
use Rattle.memtable.proofs.ReadLaws.{length_encoded}
use Rattle.memtable.proofs.StepLaws.{room_there}

every_take : {A : Type 0} (f : A → Bool) (n : ℕ) (xs : List A) → every f xs ≡ true → every f (take n xs) ≡ true
unfolding every
every_take f zero xs h = refl
every_take f (suc n) [] h = refl
every_take f (suc n) (x ∷ xs) h = rw (and_left_of (f x) (every f xs) h) (every_take f n xs (and_right_of (f x) (every f xs) h))

every_drop : {A : Type 0} (f : A → Bool) (n : ℕ) (xs : List A) → every f xs ≡ true → every f (drop n xs) ≡ true
unfolding every
every_drop f zero xs h = h
every_drop f (suc n) [] h = refl
every_drop f (suc n) (x ∷ xs) h = every_drop f n xs (and_right_of (f x) (every f xs) h)

abbrev below : ℕ → Bool
below w = ltb w 18446744073709551616

small_cons : (w : ℕ) (ws : List ℕ) → w < 18446744073709551616 → small ws ≡ true → small (w ∷ ws) ≡ true
unfolding small every
small_cons w ws h k = rw (lt-ltb w 18446744073709551616 h) k

small_append : (xs ys : List ℕ) → small xs ≡ true → small ys ≡ true → small (xs ++ ys) ≡ true
unfolding small
small_append xs ys h k = every_append below xs ys h k

small_take : (n : ℕ) (ws : List ℕ) → small ws ≡ true → small (take n ws) ≡ true
unfolding small
small_take n ws h = every_take below n ws h

small_drop : (n : ℕ) (ws : List ℕ) → small ws ≡ true → small (drop n ws) ≡ true
unfolding small
small_drop n ws h = every_drop below n ws h

word_small : (bs : List ℕ) (k : ℕ) → word bs k < 18446744073709551616
word_small bs k = omega arith

pack_small : (bs : List ℕ) → small (pack bs) ≡ true
unfolding pack small every packed_word
pack_small bs = go 0 (words (length bs))
  where
    go : (k n : ℕ) → small (map (packed_word bs) (range_with_len k n)) ≡ true
    go k zero = refl
    go k (suc n) = rw (lt-ltb (word bs (8 * k)) 18446744073709551616 (word_small bs (8 * k))) (go (k + 1) n)

measures_small : (k v : ℕ) (g : Bool) → k ≤ 255 → v ≤ 1024 → measures k v g < 18446744073709551616
measures_small k v true h l = omega arith
measures_small k v false h l = omega arith

encoded_small : (v : Version) → length v.key ≤ 255 → length v.value ≤ 1024 → small (encoded v) ≡ true
unfolding encoded
encoded_small v h l =
    small_cons (wrap v.moment) _ (omega arith)
    (small_cons (measures (length v.key) (length v.value) v.gone) _ (measures_small (length v.key) (length v.value) v.gone h l)
    (small_append (pack v.key) (pack v.value) (pack_small v.key) (pack_small v.value)))

pub append_keeps : AppendKeeps
unfolding appended put_row
append_keeps arena used v = go (has_room (length arena) used (length v.key) (length v.value)) refl
  where
    go : (b : Bool) → has_room (length arena) used (length v.key) (length v.value) ≡ b →
        (length (pick b (put_row arena used (encoded v)) arena) ≡ length arena) × (small arena ≡ true → small (pick b (put_row arena used (encoded v)) arena) ≡ true)
    go false e = (refl, λ h. h)
    go true e =
        let r = room_there (length arena) used (length v.key) (length v.value) e in
        let m = and_left_of (leb 1 (length v.key) && (leb (length v.key) 255 && leb (length v.value) 1024)) _ e in
        let n = and_right_of (leb 1 (length v.key)) (leb (length v.key) 255 && leb (length v.value) 1024) m in (
          length_put arena used (encoded v) (omega (arith, length_encoded v)),
          λ h. small_append (take used arena) (encoded v ++ drop (used + length (encoded v)) arena) (small_take used arena h)
              (small_append (encoded v) (drop (used + length (encoded v)) arena)
              (encoded_small v (leb-true (length v.key) 255 (and_left_of (leb (length v.key) 255) _ n))
              (leb-true (length v.value) 1024 (and_right_of (leb (length v.key) 255) _ n)))
              (small_drop (used + length (encoded v)) arena h)),
        )

pub enter_keeps : EnterKeeps
unfolding entered moved
enter_keeps index n at p = go (leb at n && ltb n (length index)) refl
  where
    go : (b : Bool) → (leb at n && ltb n (length index)) ≡ b →
        (length (pick b (moved index n at p) index) ≡ length index) × (p < 18446744073709551616 → small index ≡ true → small (pick b (moved index n at p) index) ≡ true)
    go false e = (refl, λ l h. h)
    go true e =
        let a = leb-true at n (and_left_of (leb at n) (ltb n (length index)) e) in
        let b = ltb-true n (length index) (and_right_of (leb at n) (ltb n (length index)) e) in (
          length-append (take at index) (p ∷ (take (n - at) (drop at index) ++ drop (n + 1) index))
              ∙ omega (arith, length-append (take (n - at) (drop at index)) (drop (n + 1) index), length-take at index, length-take (n - at) (drop at index), length-drop at index, length-drop (n + 1) index),
          λ l h. small_append (take at index) (p ∷ (take (n - at) (drop at index) ++ drop (n + 1) index)) (small_take at index h)
              (small_cons p _ l (small_append (take (n - at) (drop at index)) (drop (n + 1) index) (small_take (n - at) (drop at index) (small_drop at index h)) (small_drop (n + 1) index h))),
        )

pub insert_keeps : InsertKeeps
unfolding index_after arena_after
insert_keeps index arena t v = go (accepts_it t index arena v)
  where
    go : (b : Bool) →
        (length (pick b (entered index t.versions (seek_place t index arena v.key v.moment) t.used) index) ≡ length index)
        × (length (pick b (appended arena t.used v) arena) ≡ length arena)
        × (t.used < 18446744073709551616 → small index ≡ true →
        small (pick b (entered index t.versions (seek_place t index arena v.key v.moment) t.used) index) ≡ true)
        × (small arena ≡ true → small (pick b (appended arena t.used v) arena) ≡ true)
    go false = (refl, refl, λ l h. h, λ h. h)
    go true =
        let e = enter_keeps index t.versions (seek_place t index arena v.key v.moment) t.used in
        let a = append_keeps arena t.used v in
        (e.0, a.0, e.1, a.1)
