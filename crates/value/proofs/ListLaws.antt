-- Encoded lists of versions: they read back, and a walk by places goes through them.
use Rattle.std.proofs.Common.{◌≡◌, ℕ, zero, suc, ◌+◌, ◌*◌, ◌<◌, ◌≤◌, Bool, true, false, List, [], ◌∷◌, ◌++◌, length, drop, replicate, Some, None, sym, refl, ap, ◌∙◌, arith}
use Rattle.std.proofs.lemmas.List.{append_assoc, append-nil, length-append, length-drop}
use Rattle.value.specs.Versions.{pick, every, added_up, weight, Version}
use Rattle.value.specs.Numbers.{all_bytes, is_byte}
use Rattle.value.specs.Encoding.{in_limits, fits, encoding, key_length, size_in, stands, version_in, parsed, version_at, end_of, encode_all, parse_all, versions_in, EncodingSound, ListsReadBack}
use Rattle.value.specs.declared.version.Place.{Place}
use Rattle.value.proofs.TestLaws.{and_left_of, and_right_of, every_append, every_mono}
use Rattle.value.proofs.EncodingLaws.{stands_true, stands_parts, stands_false, says, limits_parts, version_in_limits, length_encoding, all_bytes_encoding, found_there, none_there, version_there, end_there}

-- how often to look does not matter once it is as often as there are bytes
enough : (n m : ℕ) (bs : List ℕ) → length bs ≤ n → length bs ≤ m → parse_all n bs ≡ parse_all m bs
unfolding parse_all
enough zero zero bs h k = refl
enough zero (suc m) bs h k = rw (stands_false bs (λ s. omega (arith, s.long))) refl
enough (suc n) zero bs h k = rw (stands_false bs (λ s. omega (arith, s.long))) refl
enough (suc n) (suc m) bs h k = go (stands bs) refl (enough n m (drop (size_in bs) bs))
  where
    go : (b : Bool) → stands bs ≡ b →
        (length (drop (size_in bs) bs) ≤ n → length (drop (size_in bs) bs) ≤ m → parse_all n (drop (size_in bs) bs) ≡ parse_all m (drop (size_in bs) bs)) →
        pick b (version_in bs ∷ parse_all n (drop (size_in bs) bs)) [] ≡ pick b (version_in bs ∷ parse_all m (drop (size_in bs) bs)) []
    go false t ih = refl
    go true t ih =
        let s = stands_parts bs t in
        let d = length-drop (size_in bs) bs in
        ap (λ l. version_in bs ∷ l) (ih (omega arith) (omega arith))

-- the first version, and those behind it
pub versions_first : (bs : List ℕ) → stands bs ≡ true → versions_in bs ≡ version_in bs ∷ versions_in (drop (size_in bs) bs)
unfolding versions_in parse_all
versions_first bs t =
    let s = stands_parts bs t in
    let d = length-drop (size_in bs) bs in
    enough (length bs) (suc (length bs)) bs (omega arith) (omega arith)
    ∙ rw t (ap (λ l. version_in bs ∷ l) (enough (length bs) (length (drop (size_in bs) bs)) (drop (size_in bs) bs) (omega arith) (omega arith)))

pub versions_none : (bs : List ℕ) → stands bs ≡ false → versions_in bs ≡ []
unfolding versions_in parse_all
versions_none bs t = enough (length bs) (suc (length bs)) bs (omega arith) (omega arith) ∙ rw t refl

-- all that are read are in limits
all_limited : (n : ℕ) (bs : List ℕ) → every in_limits (parse_all n bs) ≡ true
unfolding parse_all every
all_limited zero bs = refl
all_limited (suc n) bs = go (stands bs) refl (all_limited n (drop (size_in bs) bs))
  where
    go : (b : Bool) → stands bs ≡ b → every in_limits (parse_all n (drop (size_in bs) bs)) ≡ true →
        every in_limits (pick b (version_in bs ∷ parse_all n (drop (size_in bs) bs)) []) ≡ true
    go true t ih = rw (version_in_limits bs (stands_parts bs t)) ih
    go false t ih = refl

pub versions_in_limits : (bs : List ℕ) → every in_limits (versions_in bs) ≡ true
unfolding versions_in
versions_in_limits bs = all_limited (length bs) bs

-- a walk by places: the version at the place that was found, and those from its end on
pub walk_on : (row : List ℕ) (at : ℕ) (p : Place) → parsed row at ≡ Some p → versions_in (drop at row) ≡ version_at row p ∷ versions_in (drop (end_of p) row)
walk_on row at p e =
    let f = found_there row at p e in
    versions_first (drop at row) (stands_true _ f.stand)
    ∙ (λ i. (sym (version_there row at) ∙ ap (version_at row) (sym f.is)) i ∷ versions_in ((sym (end_there row at) ∙ ap (λ t. drop (end_of t) row) (sym f.is)) i))

pub walk_end : (row : List ℕ) (at : ℕ) → parsed row at ≡ None → versions_in (drop at row) ≡ []
walk_end row at e = versions_none (drop at row) (none_there row at e)

pub versions_append : (vs : List Version) (bs : List ℕ) → every in_limits vs ≡ true → versions_in (encode_all vs ++ bs) ≡ vs ++ versions_in bs
unfolding encode_all every
versions_append [] bs h = refl
versions_append (v ∷ vs) bs h =
    let s = says v (encode_all vs ++ bs) (and_left_of (in_limits v) (every in_limits vs) h) in
    ap versions_in (append_assoc (encoding v) (encode_all vs) bs)
    ∙ versions_first _ (stands_true _ s.stand)
    ∙ (λ i. s.is i ∷ versions_in (s.after i))
    ∙ ap (λ l. v ∷ l) (versions_append vs bs (and_right_of (in_limits v) (every in_limits vs) h))

pub zeros_none : (z : ℕ) → versions_in (replicate z 0) ≡ []
zeros_none z = versions_none (replicate z 0) (stands_false (replicate z 0) (λ s. none z (limits_parts _ _ _ _ s.limited).some))
  where
    none : (z : ℕ) → 0 < key_length (replicate z 0) → ⊥
    none zero h = omega arith
    none (suc z) h = omega arith

pub lists_read_back : ListsReadBack
lists_read_back vs h = (λ z. versions_append vs (replicate z 0) h ∙ ap (λ l. vs ++ l) (zeros_none z) ∙ append-nil vs, λ bs. versions_append vs bs h)

pub encode_append : (vs us : List Version) → encode_all (vs ++ us) ≡ encode_all vs ++ encode_all us
unfolding encode_all
encode_append [] us = refl
encode_append (v ∷ vs) us = ap (λ l. encoding v ++ l) (encode_append vs us) ∙ sym (append_assoc (encoding v) (encode_all vs) (encode_all us))

-- an encoding takes 49 bytes less than its version weighs
pub length_encode_all : (vs : List Version) → length (encode_all vs) + 49 * length vs ≡ weight vs
unfolding encode_all added_up
length_encode_all [] = refl
length_encode_all (v ∷ vs) = omega (arith, length-append (encoding v) (encode_all vs), length_encoding v, length_encode_all vs)

pub all_bytes_encode_all : (vs : List Version) → every fits vs ≡ true → all_bytes (encode_all vs) ≡ true
unfolding encode_all every
all_bytes_encode_all [] h = refl
all_bytes_encode_all (v ∷ vs) h =
    every_append is_byte (encoding v) (encode_all vs) (all_bytes_encoding v (and_left_of (fits v) (every fits vs) h)) (all_bytes_encode_all vs (and_right_of (fits v) (every fits vs) h))

pub fits_in_limits : (vs : List Version) → every fits vs ≡ true → every in_limits vs ≡ true
fits_in_limits vs h = every_mono fits in_limits (λ v e. and_left_of (in_limits v) _ e) vs h

pub encoding_sound : EncodingSound
encoding_sound = record { long = length_encoding; weighs = length_encode_all; bytes = all_bytes_encode_all }
