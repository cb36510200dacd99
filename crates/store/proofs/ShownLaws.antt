-- A version as it is shown: the row's numbers one by one.
use Rattle.std.proofs.Common.{◌≡◌, ℕ, zero, suc, ◌+◌, ◌-◌, ◌<◌, ◌≤◌, min, List, ◌∷◌, ◌++◌, length, get_or, take, sym, refl, ap, ◌∙◌, arith, length-append, length-take, []}
use Rattle.std.proofs.lemmas.List.{take-take, get_or-take, get_or_append_left, get_or-append_right}
use Rattle.memtable.specs.Arena.{key_length, key_at, value_at}
use Rattle.memtable.proofs.WordLaws.{length_row}
use Rattle.store.specs.Shown.{row_at, row_of}

behind_first : (x : ℕ) (xs : List ℕ) (i : ℕ) → (i ≡ 0 → ⊥) → get_or (x ∷ xs) i 0 ≡ get_or xs (i - 1) 0
behind_first x xs zero n = absurd (n refl)
behind_first x xs (suc i) n = let e : suc i - 1 ≡ i = omega arith in rw e refl

-- of a key and a value
pub length_row_of : (k v : List ℕ) → length (row_of k v) ≡ min 1280 (1 + length k + length v)
unfolding row_of
length_row_of k v = length-take 1280 (length k ∷ (k ++ v)) ∙ ap (min 1280) (omega (arith, length-append k v))

of_within : (k v : List ℕ) (i : ℕ) → i < length (row_of k v) → get_or (row_of k v) i 0 ≡ get_or (length k ∷ (k ++ v)) i 0
unfolding row_of
of_within k v i h = get_or-take 1280 (length k ∷ (k ++ v)) i 0 (omega (arith, length-take 1280 (length k ∷ (k ++ v))))

pub of_first : (k v : List ℕ) (i : ℕ) → i < length (row_of k v) → i ≡ 0 → length k ≡ get_or (row_of k v) i 0
of_first k v i h e = ap (λ j. get_or (length k ∷ (k ++ v)) j 0) (sym e) ∙ sym (of_within k v i h)

pub of_key : (k v : List ℕ) (i b : ℕ) → i < length (row_of k v) → (i ≡ 0 → ⊥) → i - 1 < length k → b ≡ get_or k (i - 1) 0 → b ≡ get_or (row_of k v) i 0
of_key k v i b h n l e = e ∙ sym (of_within k v i h ∙ behind_first (length k) (k ++ v) i n ∙ get_or_append_left k v 0 (i - 1) l)

pub of_value : (k v : List ℕ) (i b : ℕ) → i < length (row_of k v) → (i ≡ 0 → ⊥) → length k ≤ i - 1 → b ≡ get_or v (i - 1 - length k) 0 → b ≡ get_or (row_of k v) i 0
of_value k v i b h n l e = e ∙ sym (of_within k v i h ∙ behind_first (length k) (k ++ v) i n ∙ get_or-append_right k v (length k) (i - 1) 0 refl l)

take_again : (n l : ℕ) (k v : List ℕ) → n ≤ l → take n (k ++ take l v) ≡ take n (k ++ v)
take_again n l [] v h = take-take n l v h
take_again zero l (x ∷ k) v h = refl
take_again (suc n) l (x ∷ k) v h = ap (λ xs. x ∷ xs) (take_again n l k v (omega arith))

-- of a version in memory
at_is_of : (a : List ℕ) (p : ℕ) → row_at a p ≡ row_of (key_at a p) (value_at a p)
unfolding row_at row_of
at_is_of a p = ap (λ n. take 1280 (n ∷ (key_at a p ++ value_at a p))) (sym (length_row a p 2 (key_length a p)))

-- a value of which so many bytes were read as a row has room for
pub read_is_at : (a k v : List ℕ) (p : ℕ) → k ≡ key_at a p → v ≡ take 1280 (value_at a p) → row_of k v ≡ row_at a p
unfolding row_of
read_is_at a k v p e f =
    rw (e, f) (ap (λ xs. length (key_at a p) ∷ xs) (take_again 1279 1280 (key_at a p) (value_at a p) (omega arith)) ∙ sym (at_is_of a p))
