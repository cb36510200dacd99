-- A block's bytes tell its bound and its versions.
use Rattle.std.proofs.Common.{◌≡◌, ℕ, zero, suc, ◌+◌, ◌-◌, ◌*◌, ◌<◌, ◌≤◌, Bool, true, false, ◌&&◌, ltb, List, [], ◌∷◌, ◌++◌, length, get_or, take, drop, Some, None, Option, sym, refl, ap, ◌∙◌, subst, append_assoc, arith, length-append}
use Rattle.std.proofs.lemmas.List.{drop_all, take_at, drop_at, take-take, drop-drop}
use Rattle.value.specs.Versions.{pick, every, same, Version, added_up}
use Rattle.value.specs.Numbers.{number, bytes_of}
use Rattle.value.specs.Encoding.{head, encoding, encode_all, in_limits, stands, parsed, version_at, end_of, place_of}
use Rattle.value.specs.Sorted.{lookup}
use Rattle.value.proofs.TestLaws.{and_left_of, and_right_of}
use Rattle.value.proofs.NumberLaws.{length_bytes_of, number_bytes_of}
use Rattle.value.proofs.EncodingLaws.{limits_parts, length_encoding, parse_reads_encode}
use Rattle.value.specs.declared.version.Place.{Place}
use Rattle.table.specs.Blocks.{bound_of}
use Rattle.table.specs.Layout.{block_bytes, versions_length}
use Rattle.table.specs.Reading.{next_in, wanted_at, most_versions, found_from, found_in, Finds, BlockReads, HeadReads, BlockFinds}
use Rattle.table.proofs.SizeLaws.{short_version}
use Rattle.table.proofs.StreamLaws.{span_take}

-- past a row's end no version lies
pub parsed_past : (row : List ℕ) (at : ℕ) → length row ≤ at → None ≡ parsed row at
unfolding parsed stands
parsed_past row at h = rw (drop_all at row h) refl

-- a step of the walk
pub found_wanted : (n : ℕ) (row k : List ℕ) (s : ℕ) (p : Place) → wanted_at row k s p ≡ true → found_from (suc n) row k s (Some p) ≡ Some p
unfolding found_from
found_wanted n row k s p e = rw e refl

pub found_next : (n : ℕ) (row k : List ℕ) (s : ℕ) (p : Place) → wanted_at row k s p ≡ false → found_from (suc n) row k s (Some p) ≡ found_from n row k s (next_in row p)
unfolding found_from
found_next n row k s p e = rw e refl

pub found_none : (n : ℕ) (row k : List ℕ) (s : ℕ) → found_from n row k s None ≡ None
unfolding found_from
found_none zero row k s = refl
found_none (suc n) row k s = refl

-- the walk as a loop takes it, with i versions passed
pub walk_finds : (i : ℕ) (row k : List ℕ) (s : ℕ) (o : Option Place) (p : Place) (all : Option Place) → i < 94 → o ≡ Some p → true ≡ wanted_at row k s p → found_from (94 - i) row k s o ≡ all → Some p ≡ all
walk_finds i row k s o p all h e w q =
    let n : 94 - i ≡ suc (94 - (i + 1)) = omega arith in
    sym (ap (λ m. found_from m row k s o) n ∙ ap (found_from (suc (94 - (i + 1))) row k s) e ∙ found_wanted (94 - (i + 1)) row k s p (sym w)) ∙ q

pub walk_goes_on :
    (i : ℕ) (row k : List ℕ) (s : ℕ) (o : Option Place) (p : Place) (o₁ all : Option Place) → i < 94 → o ≡ Some p → false ≡ wanted_at row k s p → o₁ ≡ next_in row p →
    found_from (94 - i) row k s o ≡ all → found_from (94 - (i + 1)) row k s o₁ ≡ all
walk_goes_on i row k s o p o₁ all h e w g q =
    let n : 94 - i ≡ suc (94 - (i + 1)) = omega arith in
    ap (found_from (94 - (i + 1)) row k s) g
    ∙ sym (ap (λ m. found_from m row k s o) n ∙ ap (found_from (suc (94 - (i + 1))) row k s) e ∙ found_next (94 - (i + 1)) row k s p (sym w)) ∙ q

pub walk_ends : (n : ℕ) (row k : List ℕ) (s : ℕ) (o all : Option Place) → o ≡ None → found_from n row k s o ≡ all → None ≡ all
walk_ends n row k s o all e q = sym (ap (found_from n row k s) e ∙ found_none n row k s) ∙ q

pub walk_spent : (i : ℕ) (row k : List ℕ) (s : ℕ) (o all : Option Place) → 94 ≤ i → found_from (94 - i) row k s o ≡ all → None ≡ all
unfolding found_from
walk_spent i row k s o all h q = let n : 94 - i ≡ 0 = omega arith in sym (ap (λ m. found_from m row k s o) n) ∙ q

-- where a version's encoding begins, it is parsed; behind the last nothing is
parse_here : (xs : List ℕ) (v : Version) (vs : List Version) → in_limits v ≡ true →
    (parsed (xs ++ encode_all (v ∷ vs)) (length xs) ≡ Some (place_of (length xs) v)) × (version_at (xs ++ encode_all (v ∷ vs)) (place_of (length xs) v) ≡ v)
unfolding encode_all
parse_here xs v vs f = parse_reads_encode xs v (encode_all vs) f

-- one version of the walk: it is wanted, or the next ones decide
finds_one : (xs : List ℕ) (v : Version) (vs : List Version) (k : List ℕ) (s n : ℕ) → version_at (xs ++ encode_all (v ∷ vs)) (place_of (length xs) v) ≡ v →
    Finds (xs ++ encode_all (v ∷ vs)) (lookup vs k s) (found_from n (xs ++ encode_all (v ∷ vs)) k s (next_in (xs ++ encode_all (v ∷ vs)) (place_of (length xs) v))) →
    Finds (xs ++ encode_all (v ∷ vs)) (lookup (v ∷ vs) k s) (found_from (suc n) (xs ++ encode_all (v ∷ vs)) k s (Some (place_of (length xs) v)))
unfolding lookup found_from
finds_one xs v vs k s n is more = rw (ap (λ x. same x.key k && ltb x.moment s) is) (go (same v.key k && ltb v.moment s))
  where
    go : (b : Bool) →
        Finds (xs ++ encode_all (v ∷ vs)) (pick b (v ∷ []) (lookup vs k s))
        (pick b (Some (place_of (length xs) v)) (found_from n (xs ++ encode_all (v ∷ vs)) k s (next_in (xs ++ encode_all (v ∷ vs)) (place_of (length xs) v))))
    go true = ap (λ x. x ∷ []) (sym is)
    go false = more

-- the walk over the versions from a place on
finds_from :
    (vs : List Version) (xs : List ℕ) (k : List ℕ) (s n : ℕ) → every in_limits vs ≡ true → length vs ≤ n →
    Finds (xs ++ encode_all vs) (lookup vs k s) (found_from n (xs ++ encode_all vs) k s (parsed (xs ++ encode_all vs) (length xs)))
unfolding encode_all lookup every
finds_from [] xs k s n f l =
    let e : parsed (xs ++ []) (length xs) ≡ None = sym (parsed_past (xs ++ []) (length xs) (omega (arith, length-append {A = ℕ} xs []))) in
    rw (e, found_none n (xs ++ []) k s) refl
finds_from (v ∷ vs) xs k s zero f l = absurd (omega arith)
finds_from (v ∷ vs) xs k s (suc n) f l =
    let (here, is) = parse_here xs v vs (and_left_of (in_limits v) (every in_limits vs) f) in
    let more = finds_from vs (xs ++ encoding v) k s n (and_right_of (in_limits v) (every in_limits vs) f) (omega arith) in
    let e : length (xs ++ encoding v) ≡ end_of (place_of (length xs) v) = omega (arith, length-append xs (encoding v), length_encoding v) in
    rw here (finds_one xs v vs k s n is (subst (λ r. Finds r (lookup vs k s) (found_from n r k s (parsed r (end_of (place_of (length xs) v))))) (append_assoc xs (encoding v) (encode_all vs)) (rw e at more)))

-- a version takes 16 bytes at least
few_versions : (vs : List Version) → every in_limits vs ≡ true → 16 * length vs ≤ versions_length vs
unfolding every added_up
few_versions [] f = omega arith
few_versions (v ∷ vs) f =
    let s = short_version v (and_left_of (in_limits v) (every in_limits vs) f) in
    let h = few_versions vs (and_right_of (in_limits v) (every in_limits vs) f) in
    omega arith

pub block_finds : BlockFinds
unfolding found_in block_bytes
block_finds p v vs k s f l =
    let e = length_bytes_of 8 (bound_of p v) in
    let h = few_versions (v ∷ vs) f in
    subst (λ n. Finds (block_bytes p (v ∷ vs)) (lookup (v ∷ vs) k s) (found_from most_versions (block_bytes p (v ∷ vs)) k s (parsed (block_bytes p (v ∷ vs)) n))) e
    (finds_from (v ∷ vs) (bytes_of 8 (bound_of p v)) k s most_versions f (omega arith))

unfold_every : (v : Version) (vs : List Version) → every in_limits (v ∷ vs) ≡ true → (in_limits v && every in_limits vs) ≡ true
unfolding every
unfold_every v vs f = f

pub block_reads : BlockReads
unfolding block_bytes
block_reads p v vs f l =
    let e = length_bytes_of 8 (bound_of p v) in
    let (here, is) = parse_here (bytes_of 8 (bound_of p v)) v vs (and_left_of (in_limits v) (every in_limits vs) (unfold_every v vs f)) in
    (ap number (take_at (bytes_of 8 (bound_of p v)) (encode_all (v ∷ vs)) 8 e) ∙ number_bytes_of 8 (bound_of p v) l, rw e at here, rw e at is)

-- a byte of a row, as a span
pub getD_span : (xs : List ℕ) (i : ℕ) → get_or xs i 0 ≡ get_or (take 1 (drop i xs)) 0 0
getD_span [] zero = refl
getD_span [] (suc i) = refl
getD_span (x ∷ xs) zero = refl
getD_span (x ∷ xs) (suc i) = getD_span xs i

-- the bytes before a version's key, the key, and the rest
encoding_parts : (v : Version) (more : List ℕ) → encoding v ++ more ≡ head (length v.key) v.moment v.gone (length v.value) ++ (v.key ++ (v.value ++ more))
unfolding encoding
encoding_parts v more =
    append_assoc (head (length v.key) v.moment v.gone (length v.value)) (v.key ++ v.value) more
    ∙ ap (λ x. head (length v.key) v.moment v.gone (length v.value) ++ x) (append_assoc v.key v.value more)

first_of_head : (k m : ℕ) (g : Bool) (n : ℕ) (more : List ℕ) → get_or (take 1 (head k m g n ++ more)) 0 0 ≡ k
unfolding head
first_of_head k m g n more = refl

length_head : (k m : ℕ) (g : Bool) (n : ℕ) → length (head k m g n) ≡ 15
unfolding head bytes_of
length_head k m g n = refl

-- of a block whose bytes are cut off behind the head
pub head_reads : HeadReads
unfolding block_bytes encode_all
head_reads p v vs n f l h =
    let B = bytes_of 8 (bound_of p v) in
    let e = length_bytes_of 8 (bound_of p v) in
    let H = head (length v.key) v.moment v.gone (length v.value) in
    let more = encode_all vs in
    let row = B ++ (encoding v ++ more) in
    let s = limits_parts (length v.key) v.moment v.gone (length v.value) (and_left_of (in_limits v) (every in_limits vs) (unfold_every v vs f)) in
    let lh = length_head (length v.key) v.moment v.gone (length v.value) in
    let behind : drop 8 row ≡ H ++ (v.key ++ (v.value ++ more)) = drop_at B (encoding v ++ more) 8 e ∙ encoding_parts v more in
    let byte : get_or (take n row) 8 0 ≡ length v.key =
    getD_span (take n row) 8 ∙ ap (λ x. get_or x 0 0) (span_take 8 1 n row (omega arith) ∙ ap (take 1) behind)
    ∙ first_of_head (length v.key) v.moment v.gone (length v.value) (v.key ++ (v.value ++ more)) in
    let key : drop 23 row ≡ v.key ++ (v.value ++ more) = sym (drop-drop 15 8 row) ∙ ap (drop 15) behind ∙ drop_at H (v.key ++ (v.value ++ more)) 15 lh in (
      ap number (take-take 8 n row (omega arith) ∙ take_at B (encoding v ++ more) 8 e) ∙ number_bytes_of 8 (bound_of p v) l,
      ap (λ j. take j (drop 23 (take n row))) byte ∙ span_take 23 (length v.key) n row (omega arith) ∙ ap (take (length v.key)) key ∙ take_at v.key (v.value ++ more) (length v.key) refl,
    )
