-- An insertion: what was held is held, with the new version behind all that came.
use Rattle.std.proofs.Common.{◌≡◌, ℕ, zero, suc, ◌+◌, ◌-◌, ◌<◌, ◌≤◌, Bool, true, ◌&&◌, ltb, leb, List, [], ◌∷◌, ◌++◌, length, take, drop, sym, refl, ap, ◌∙◌, subst, ap₂, inl, inr, arith}
use Rattle.std.specs.List.{AllByRecursion}
use Rattle.std.proofs.ByRecursion.{All-append, All-take, All-drop}
use Rattle.std.proofs.lemmas.Bool.{cases_lt, lt-ltb, le-leb, lt-leb}
use Rattle.std.proofs.lemmas.List.{append-nil, append_assoc, take_all, take_at, take-take, take-append-le, drop_at, drop-take, drop-append-le, length-append, length-take, length-drop, length_push}
use Rattle.value.specs.Versions.{every, each, Version, added_up, weight}
use Rattle.value.specs.Rising.{rising}
use Rattle.value.specs.Sorted.{sort}
use Rattle.value.proofs.TestLaws.{and_left_of, and_right_of, every_append, and_false_right}
use Rattle.value.proofs.SortLaws.{sort_every}
use Rattle.value.proofs.MergeLaws.{push_right}
use Rattle.memtable.specs.Words.{put_row}
use Rattle.memtable.specs.Arena.{version_at, size, encoded, has_room, appended}
use Rattle.memtable.specs.Index.{moved, entered}
use Rattle.memtable.specs.Memtable.{accepts, one_more, after_one, seek_place, accepts_it, table_after, index_after, arena_after}
use Rattle.memtable.specs.Holds.{fits, encode_all, Stands, goes_before, Holds, InsertRight, RoomRight}
use Rattle.memtable.specs.declared.memtable.Memtable.{Memtable}
use Rattle.memtable.proofs.StepLaws.{Accepted, accepted, accepts_room}
use Rattle.memtable.proofs.ReadLaws.{fits_parts, length_encoded, version_read}
use Rattle.memtable.proofs.SearchLaws.{stretch, stretch_within, insert_there, rising_newer, rising_front, newer}
use Rattle.memtable.proofs.HeldLaws.{sized, counts, seek_is}

-- LISTS
each_append : {A B : Type 0} (f : A → B) (xs ys : List A) → each f (xs ++ ys) ≡ each f xs ++ each f ys
unfolding each
each_append f [] ys = refl
each_append f (x ∷ xs) ys = ap (λ l. f x ∷ l) (each_append f xs ys)

each_take : {A B : Type 0} (f : A → B) (n : ℕ) (xs : List A) → each f (take n xs) ≡ take n (each f xs)
unfolding each
each_take f zero xs = refl
each_take f (suc n) [] = refl
each_take f (suc n) (x ∷ xs) = ap (λ l. f x ∷ l) (each_take f n xs)

each_drop : {A B : Type 0} (f : A → B) (n : ℕ) (xs : List A) → each f (drop n xs) ≡ drop n (each f xs)
unfolding each
each_drop f zero xs = refl
each_drop f (suc n) [] = refl
each_drop f (suc n) (x ∷ xs) = each_drop f n xs

each_like : {A B : Type 0} (f g : A → B) (xs : List A) → AllByRecursion (λ x. f x ≡ g x) xs → each f xs ≡ each g xs
unfolding each
each_like f g [] h = refl
each_like f g (x ∷ xs) h = ap₂ ◌∷◌ h.0 (each_like f g xs h.1)

each_cons : {A B : Type 0} (f : A → B) (x : A) (xs : List A) → each f (x ∷ xs) ≡ f x ∷ each f xs
unfolding each
each_cons f x xs = refl

every_one : {A : Type 0} (f : A → Bool) (x : A) → f x ≡ true → every f (x ∷ []) ≡ true
unfolding every
every_one f x e = rw e refl

-- what holds of each place and what is read there
all_read : {A B : Type 0} (P Q : A → Type 0) (f : A → B) (g : B → Bool) (xs : List A) → ((x : A) → P x → g (f x) ≡ true → Q x) → AllByRecursion P xs → every g (each f xs) ≡ true → AllByRecursion Q xs
unfolding each every
all_read P Q f g [] w a e = tt
all_read P Q f g (x ∷ xs) w a e =
    (w x a.0 (and_left_of (g (f x)) (every g (each f xs)) e), all_read P Q f g xs w a.1 (and_right_of (g (f x)) (every g (each f xs)) e))

encode_push : (vs : List Version) (v : Version) → encode_all (vs ++ v ∷ []) ≡ encode_all vs ++ encoded v
unfolding encode_all
encode_push [] v = append-nil (encoded v)
encode_push (u ∷ vs) v = ap (λ l. encoded u ++ l) (encode_push vs v) ∙ sym (append_assoc (encoded u) (encode_all vs) (encoded v))

pub weight_push : (vs : List Version) (v : Version) → weight (vs ++ v ∷ []) ≡ weight vs + (64 + length v.key + length v.value)
unfolding added_up
weight_push [] v = omega arith
weight_push (u ∷ vs) v = omega (arith, weight_push vs v)

-- WHAT STANDS in some words stands in more of them
stands_more : (ws xs : List ℕ) (p : ℕ) (v : Version) → Stands ws p v → Stands (ws ++ xs) p v
unfolding Stands
stands_more ws xs p v s =
    let n = ap length s in
    let m : (p ≤ length ws) × (length (encoded v) ≤ length (drop p ws)) =
    (omega (arith, length_encoded v, length-take (length (encoded v)) (drop p ws), length-drop p ws), omega (arith, length-take (length (encoded v)) (drop p ws))) in
    ap (take (length (encoded v))) (drop-append-le p ws xs m.0) ∙ take-append-le (length (encoded v)) (drop p ws) xs m.1 ∙ s

stands_last : (ws : List ℕ) (v : Version) (p : ℕ) → length ws ≡ p → Stands (ws ++ encoded v) p v
unfolding Stands
stands_last ws v p e = ap (take (length (encoded v))) (drop_at ws (encoded v) p e) ∙ take_all (length (encoded v)) (encoded v) (omega arith)

-- the index's first places after a place is entered
moved_front : (index : List ℕ) (n at p : ℕ) → at ≤ n → n < length index →
    take (n + 1) (moved index n at p) ≡ take at (take n index) ++ (p ∷ drop at (take n index))
unfolding moved
moved_front index n at p h l =
    let a : take at (take n index) ≡ take at index = take-take at n index h in
    let e : at + (n - at) ≡ n = omega arith in
    let b : drop at (take n index) ≡ take (n - at) (drop at index) = ap (λ k. drop at (take k index)) (sym e) ∙ drop-take at (n - at) index in
    let x : List ℕ = take at index ++ (p ∷ take (n - at) (drop at index)) in
    let m : length x ≡ n + 1 =
    length-append (take at index) (p ∷ take (n - at) (drop at index))
    ∙ omega (arith, length-take at index, length-take (n - at) (drop at index), length-drop at index) in
    ap (take (n + 1)) (sym (append_assoc (take at index) (p ∷ take (n - at) (drop at index)) (drop (n + 1) index)))
    ∙ take_at x (drop (n + 1) index) (n + 1) m
    ∙ ap₂ (λ u w. u ++ (p ∷ w)) (sym a) (sym b)

put_front : (ws : List ℕ) (at n : ℕ) (xs : List ℕ) → at ≤ length ws → n ≡ at + length xs → take n (put_row ws at xs) ≡ take at ws ++ xs
unfolding put_row
put_front ws at n xs h e =
    ap (take n) (sym (append_assoc (take at ws) xs (drop (at + length xs) ws)))
    ∙ take_at (take at ws ++ xs) (drop (at + length xs) ws) n (length-append (take at ws) xs ∙ omega (arith, length-take at ws))

-- what an insertion that is accepted leaves
arena_is : (t : Memtable) (index arena : List ℕ) (v : Version) → accepts_it t index arena v ≡ true → arena_after t index arena v ≡ put_row arena t.used (encoded v)
unfolding arena_after appended
arena_is t index arena v a =
    rw (a, accepts_room t (length index) (length arena) (length v.key) (length v.value) a) refl

table_is : (t : Memtable) (index arena : List ℕ) (v : Version) → accepts_it t index arena v ≡ true → table_after t index arena v ≡ one_more t (length v.key) (length v.value)
unfolding after_one
table_is t index arena v a = rw a refl

index_is : (t : Memtable) (index arena : List ℕ) (v : Version) (at : ℕ) → accepts_it t index arena v ≡ true → seek_place t index arena v.key v.moment ≡ at → at ≤ t.versions →
    index_after t index arena v ≡ moved index t.versions at t.used
unfolding index_after entered
index_is t index arena v at a e h =
    let x = accepted t (length index) (length arena) (length v.key) (length v.value) a in
    rw (a, e, le-leb at t.versions h, lt-ltb t.versions (length index) x.index) refl

held_more : (index arena : List ℕ) (t : Memtable) (vs : List Version) (v : Version) (at : ℕ) → Holds index arena t vs → fits v ≡ true → rising (vs ++ v ∷ []) ≡ true →
    Accepted t (length index) (length arena) (length v.key) (length v.value) → at ≡ stretch (goes_before v.key v.moment) (sort vs) → at ≤ t.versions →
    Holds (moved index t.versions at t.used) (put_row arena t.used (encoded v)) (one_more t (length v.key) (length v.value)) (vs ++ v ∷ [])
held_more index arena t vs v at h f r x e w =
    let z = length_encoded v in
    let n : ℕ = t.versions in
    let u : ℕ = t.used in
    let u₁ : ℕ = u + size (length v.key) (length v.value) in
    let arena₁ : List ℕ = put_row arena u (encoded v) in
    let places : List ℕ = take n index in
    let old : List ℕ = take u arena in
    let front : take u₁ arena₁ ≡ old ++ encoded v = put_front arena u u₁ (encoded v) (omega (arith, x.arena)) (omega arith) in
    let ended : u ≡ length (encode_all vs) = h.ended in
    let long : length old ≡ u = ap length h.filled ∙ sym ended in
    let more : (p : ℕ) → Stands old p (version_at arena p) → fits (version_at arena p) ≡ true → Stands (take u₁ arena₁) p (version_at arena p) =
    λ p s g. subst (λ ws. Stands ws p (version_at arena p)) (sym front) (stands_more old (encoded v) p (version_at arena p) s) in
    let alike : (p : ℕ) → Stands old p (version_at arena p) → fits (version_at arena p) ≡ true → version_at arena₁ p ≡ version_at arena p =
    λ p s g. version_read arena₁ u₁ p (version_at arena p) g (more p s g) in
    let fit : every fits (each (version_at arena) places) ≡ true = ap (every fits) h.sorted ∙ sort_every fits vs ∙ h.fit in
    let same_all : AllByRecursion (λ p. version_at arena₁ p ≡ version_at arena p) places =
    all_read (λ p. Stands old p (version_at arena p)) (λ p. version_at arena₁ p ≡ version_at arena p) (version_at arena) fits places alike h.stand fit in
    let stand_all : AllByRecursion (λ p. Stands (take u₁ arena₁) p (version_at arena₁ p)) places =
    all_read (λ p. Stands old p (version_at arena p)) (λ p. Stands (take u₁ arena₁) p (version_at arena₁ p)) (version_at arena) fits places
    (λ p s g. subst (Stands (take u₁ arena₁) p) (sym (alike p s g)) (more p s g)) h.stand fit in
    let there : Stands (take u₁ arena₁) u v = subst (λ ws. Stands ws u v) (sym front) (stands_last old v u long) in
    let new : version_at arena₁ u ≡ v = version_read arena₁ u₁ u v f there in
    let us : each (version_at arena₁) places ≡ sort vs = each_like (version_at arena₁) (version_at arena) places same_all ∙ h.sorted in
    let moved_is : take (n + 1) (moved index n at u) ≡ take at places ++ (u ∷ drop at places) = moved_front index n at u w x.index in
    record {
      counted = ap (λ k. k + 1) h.counted ∙ sym (length_push vs v);
      weighed = ap (λ k. k + (64 + length v.key + length v.value)) h.weighed ∙ sym (weight_push vs v);
      ended = sym (ap length (encode_push vs v) ∙ length-append (encode_all vs) (encoded v) ∙ omega arith);
      filled = front ∙ ap (λ l. l ++ encoded v) h.filled ∙ sym (encode_push vs v);
      sorted =
          ap (each (version_at arena₁)) moved_is
          ∙ each_append (version_at arena₁) (take at places) (u ∷ drop at places)
          ∙ ap₂ ◌++◌ (each_take (version_at arena₁) at places ∙ ap (take at) us)
          (each_cons (version_at arena₁) u (drop at places) ∙ ap₂ ◌∷◌ new (each_drop (version_at arena₁) at places ∙ ap (drop at) us))
          ∙ ap (λ k. take k (sort vs) ++ (v ∷ drop k (sort vs))) e
          ∙ sym (insert_there v (sort vs) (sort_every (newer v) vs ∙ rising_newer vs v r))
          ∙ sym (push_right vs v);
      stand = subst (AllByRecursion (λ p. Stands (take u₁ arena₁) p (version_at arena₁ p))) (sym moved_is)
          (All-append (λ p. Stands (take u₁ arena₁) p (version_at arena₁ p)) (take at places) (u ∷ drop at places)
          (All-take (λ p. Stands (take u₁ arena₁) p (version_at arena₁ p)) at places stand_all)
          (subst (Stands (take u₁ arena₁) u) (sym new) there, All-drop (λ p. Stands (take u₁ arena₁) p (version_at arena₁ p)) at places stand_all));
      fit = every_append fits vs (v ∷ []) h.fit (every_one fits v f);
      light = omega (arith, weight_push vs v, h.weighed, x.weight);
    }

pub insert_right : InsertRight
insert_right index arena t vs v h f r a =
    let x = accepted t (length index) (length arena) (length v.key) (length v.value) a in
    let b = fits_parts v f in
    let c = counts index arena t vs h in
    let at : ℕ = stretch (goes_before v.key v.moment) (sort vs) in
    let w : at ≤ t.versions = omega (arith, c.sorted, stretch_within (goes_before v.key v.moment) (sort vs)) in
    let s : seek_place t index arena v.key v.moment ≡ at = seek_is index arena t vs v.key v.moment h (rising_front vs v r) b.key_bytes in
    let done = held_more index arena t vs v at h f r x refl w in
    subst (λ i. Holds i (arena_after t index arena v) (table_after t index arena v) (vs ++ v ∷ [])) (sym (index_is t index arena v at a s w))
    (subst (λ y. Holds (moved index t.versions at t.used) y (table_after t index arena v) (vs ++ v ∷ [])) (sym (arena_is t index arena v a))
    (subst (λ y. Holds (moved index t.versions at t.used) (put_row arena t.used (encoded v)) y (vs ++ v ∷ [])) (sym (table_is t index arena v a)) done))

-- ROOM for all that does not pass the weight
pub room_right : RoomRight
unfolding accepts
room_right index arena t vs v h f p q =
    let b = fits_parts v f in
    let g : every fits (vs ++ v ∷ []) ≡ true = every_append fits vs (v ∷ []) h.fit (every_one fits v f) in
    let s = sized (vs ++ v ∷ []) g in
    let n = length_push vs v in
    let l : length (encode_all (vs ++ v ∷ [])) ≡ t.used + size (length v.key) (length v.value) =
    ap length (encode_push vs v) ∙ length-append (encode_all vs) (encoded v) ∙ omega (arith, h.ended, length_encoded v) in
    let w : t.weight + (64 + length v.key + length v.value) ≡ weight (vs ++ v ∷ []) = omega (arith, h.weighed, weight_push vs v) in
    rw w (go (weight (vs ++ v ∷ [])) (λ m. (
      le-leb 1 (length v.key) b.one,
      le-leb (length v.key) 255 b.key_long,
      le-leb (length v.value) 1024 b.value_long,
      le-leb (t.used + size (length v.key) (length v.value)) (length arena) (omega (arith, s.used, l)),
      lt-ltb t.versions (length index) (omega (arith, h.counted, s.count, n)),
    )))
  where
    go : (m : ℕ) → (m ≤ 1048576 → (leb 1 (length v.key) ≡ true) × (leb (length v.key) 255 ≡ true) × (leb (length v.value) 1024 ≡ true)
        × (leb (t.used + size (length v.key) (length v.value)) (length arena) ≡ true) × (ltb t.versions (length index) ≡ true)) →
        (has_room (length arena) t.used (length v.key) (length v.value) && (ltb t.versions (length index) && leb m 1048576)) ≡ leb m 1048576
    go m y = elim (cases_lt 1048576 m) [
      | inl l ↦ rw (lt-leb m 1048576 l, and_false_right (ltb t.versions (length index))) (and_false_right _)
      | inr l ↦ let z = y l in rw (z.0, z.1, z.2, z.3, z.4) refl
    ]
