-- Sizes of tables, from the lengths of their versions.
use Rattle.std.proofs.Common.{◌≡◌, ℕ, suc, ◌+◌, ◌*◌, ◌<◌, ◌≤◌, Bool, true, false, ltb, List, [], ◌∷◌, ◌++◌, length, drop, sym, refl, ap, ◌∙◌, append-nil, zero-add, arith, length-append, ltb-false, ltb-true}
use Rattle.std.proofs.lemmas.List.{drop_at, drop-drop}
use Rattle.value.specs.Versions.{pick, every, Version, added_up, weight}
use Rattle.value.specs.Numbers.{bytes_of}
use Rattle.value.specs.Encoding.{encoding, encoded_length, encode_all, in_limits}
use Rattle.value.proofs.TestLaws.{and_left_of, and_right_of}
use Rattle.value.proofs.NumberLaws.{length_bytes_of}
use Rattle.value.proofs.EncodingLaws.{length_encoding, limits_parts}
use Rattle.table.specs.Blocks.{bound_of, last_one}
use Rattle.table.specs.Layout.{block_limit, starts, onto, cut, blocks, block_bytes, stream_of_blocks, versions_length, entry, entries, table_stream}
use Rattle.table.specs.Sizes.{joined, block_length, blocks_length, page_count, most_blocks, position_pages, most_pages, SomeIn, BlocksHold, AllShort, BlocksShort, BlockStands, TableFits}
use Rattle.table.proofs.LayoutLaws.{first, others, onto_is, stream_is_blocks, entries_are_blocks}

-- WHAT IS IN THE BLOCKS
cut_holds : (vs : List Version) (n : ℕ) → (first (cut n vs) ++ joined (others (cut n vs)) ≡ vs) × SomeIn (others (cut n vs))
unfolding cut joined
cut_holds [] n = (refl, tt)
cut_holds (v ∷ vs) n = go (starts n v) (cut_holds vs (8 + encoded_length v)) (cut_holds vs (n + encoded_length v))
  where
    go : (c : Bool) → (first (cut (8 + encoded_length v) vs) ++ joined (others (cut (8 + encoded_length v) vs)) ≡ vs) × SomeIn (others (cut (8 + encoded_length v) vs)) →
        (first (cut (n + encoded_length v) vs) ++ joined (others (cut (n + encoded_length v) vs)) ≡ vs) × SomeIn (others (cut (n + encoded_length v) vs)) →
        (first (pick c ([] ∷ onto v (cut (8 + encoded_length v) vs)) (onto v (cut (n + encoded_length v) vs)))
        ++ joined (others (pick c ([] ∷ onto v (cut (8 + encoded_length v) vs)) (onto v (cut (n + encoded_length v) vs)))) ≡ v ∷ vs)
        × SomeIn (others (pick c ([] ∷ onto v (cut (8 + encoded_length v) vs)) (onto v (cut (n + encoded_length v) vs))))
    go true begun more = rw (onto_is v (cut (8 + encoded_length v) vs)) (ap (λ l. v ∷ l) begun.0, (omega arith, begun.1))
    go false begun more = rw (onto_is v (cut (n + encoded_length v) vs)) (ap (λ l. v ∷ l) more.0, more.1)

pub blocks_hold : BlocksHold
unfolding blocks joined
blocks_hold [] = (refl, tt)
blocks_hold (v ∷ vs) =
    let (e, s) = cut_holds vs (8 + encoded_length v) in
    rw (onto_is v (cut (8 + encoded_length v) vs)) (ap (λ l. v ∷ l) e, (omega arith, s))

-- a version in its limits is at most 1,294 bytes
pub short_version : (v : Version) → in_limits v ≡ true → (16 ≤ encoded_length v) × (encoded_length v ≤ 1294)
short_version v h = let l = limits_parts (length v.key) v.moment v.gone (length v.value) h in omega arith

cut_short : (vs : List Version) (n : ℕ) → n ≤ block_limit → every in_limits vs ≡ true → (n + versions_length (first (cut n vs)) ≤ block_limit) × AllShort (others (cut n vs))
unfolding cut every added_up starts
cut_short [] n h f = (omega arith, tt)
cut_short (v ∷ vs) n h f =
    let s = short_version v (and_left_of (in_limits v) (every in_limits vs) f) in
    let f₂ = and_right_of (in_limits v) (every in_limits vs) f in
    go (ltb block_limit (n + encoded_length v)) refl (cut_short vs (8 + encoded_length v) (omega arith) f₂) (λ g. cut_short vs (n + encoded_length v) g f₂)
  where
    go : (c : Bool) → ltb block_limit (n + encoded_length v) ≡ c →
        ((8 + encoded_length v) + versions_length (first (cut (8 + encoded_length v) vs)) ≤ block_limit) × AllShort (others (cut (8 + encoded_length v) vs)) →
        (n + encoded_length v ≤ block_limit → ((n + encoded_length v) + versions_length (first (cut (n + encoded_length v) vs)) ≤ block_limit) × AllShort (others (cut (n + encoded_length v) vs))) →
        (n + versions_length (first (pick c ([] ∷ onto v (cut (8 + encoded_length v) vs)) (onto v (cut (n + encoded_length v) vs)))) ≤ block_limit)
        × AllShort (others (pick c ([] ∷ onto v (cut (8 + encoded_length v) vs)) (onto v (cut (n + encoded_length v) vs))))
    go true e begun more = rw (onto_is v (cut (8 + encoded_length v) vs)) (omega arith, (omega arith, begun.1))
    go false e begun more =
        let (a, b) = more (ltb-false block_limit (n + encoded_length v) e) in
        rw (onto_is v (cut (n + encoded_length v) vs)) (omega arith, b)

pub blocks_short : BlocksShort
unfolding blocks every added_up
blocks_short [] f = tt
blocks_short (v ∷ vs) f =
    let s = short_version v (and_left_of (in_limits v) (every in_limits vs) f) in
    let (a, b) = cut_short vs (8 + encoded_length v) (omega arith) (and_right_of (in_limits v) (every in_limits vs) f) in
    rw (onto_is v (cut (8 + encoded_length v) vs)) (omega arith, b)

-- WHERE A BLOCK STANDS
pub last_append : (p xs ys : List Version) → last_one p (xs ++ ys) ≡ last_one (last_one p xs) ys
unfolding last_one
last_append p [] ys = refl
last_append p (x ∷ xs) ys = last_append (x ∷ []) xs ys

pub length_encode_all : (vs : List Version) → length (encode_all vs) ≡ versions_length vs
unfolding encode_all added_up
length_encode_all [] = refl
length_encode_all (v ∷ vs) = length-append (encoding v) (encode_all vs) ∙ rw (length_encoding v, length_encode_all vs) refl

length_block : (p b : List Version) → 0 < length b → length (block_bytes p b) ≡ block_length b
unfolding block_bytes
length_block p [] h = absurd (omega arith)
length_block p (v ∷ vs) h = length-append (bytes_of 8 (bound_of p v)) (encode_all (v ∷ vs)) ∙ rw (length_bytes_of 8 (bound_of p v), length_encode_all (v ∷ vs)) refl

stream_at : (xs : List (List Version)) (b : List Version) (ys : List (List Version)) (p : List Version) → SomeIn (xs ++ b ∷ ys) →
    drop (blocks_length xs) (stream_of_blocks p (xs ++ b ∷ ys)) ≡ block_bytes (last_one p (joined xs)) b ++ stream_of_blocks (last_one p (joined (xs ++ b ∷ []))) ys
unfolding stream_of_blocks joined added_up last_one
stream_at [] b ys p s = rw (append-nil b) refl
stream_at (x ∷ xs) b ys p s =
    sym (drop-drop (blocks_length xs) (block_length x) (stream_of_blocks p ((x ∷ xs) ++ b ∷ ys)))
    ∙ ap (drop (blocks_length xs)) (drop_at (block_bytes p x) (stream_of_blocks (last_one p x) (xs ++ b ∷ ys)) (block_length x) (length_block p x s.0))
    ∙ stream_at xs b ys (last_one p x) s.1 ∙ rw (last_append p x (joined xs), last_append p x (joined (xs ++ b ∷ []))) refl

pub length_entry : (at n : ℕ) → length (entry at n) ≡ 8
unfolding entry
length_entry at n = length-append (bytes_of 4 at) (bytes_of 4 n) ∙ rw (length_bytes_of 4 at, length_bytes_of 4 n) refl

entry_at : (xs : List (List Version)) (b : List Version) (ys : List (List Version)) (at : ℕ) →
    drop (8 * length xs) (entries at (xs ++ b ∷ ys)) ≡ entry (at + blocks_length xs) (block_length b) ++ entries (at + blocks_length xs + block_length b) ys
unfolding entries added_up
entry_at [] b ys at = let z : at + 0 ≡ at = omega arith in rw z refl
entry_at (x ∷ xs) b ys at =
    let e : 8 * suc (length xs) ≡ 8 + 8 * length xs = omega arith in
    let f : at + (block_length x + blocks_length xs) ≡ at + block_length x + blocks_length xs = omega arith in
    rw (e, f) (sym (drop-drop (8 * length xs) 8 (entries at ((x ∷ xs) ++ b ∷ ys)))
    ∙ ap (drop (8 * length xs)) (drop_at (entry at (block_length x)) (entries (at + block_length x) (xs ++ b ∷ ys)) 8 (length_entry at (block_length x)))
    ∙ entry_at xs b ys (at + block_length x))

some_here : (xs : List (List Version)) (b : List Version) (ys : List (List Version)) → SomeIn (xs ++ b ∷ ys) → 0 < length b
some_here [] b ys s = s.0
some_here (x ∷ xs) b ys s = some_here xs b ys s.1

pub block_stands : BlockStands
block_stands xs b ys s = (stream_at xs b ys [] s, length_block (last_one [] (joined xs)) b (some_here xs b ys s), simp zero-add at (entry_at xs b ys 0))

-- HOW MANY BLOCKS: a block that is begun has with the one before it more than 1,512 bytes, and each version weighs 49 more than its bytes
cut_count : (vs : List Version) (n : ℕ) → 1603 * length (others (cut n vs)) ≤ 2 * weight vs + n
unfolding cut added_up starts
cut_count [] n = omega arith
cut_count (v ∷ vs) n = go (ltb block_limit (n + encoded_length v)) refl (cut_count vs (8 + encoded_length v)) (cut_count vs (n + encoded_length v))
  where
    go : (c : Bool) → ltb block_limit (n + encoded_length v) ≡ c → 1603 * length (others (cut (8 + encoded_length v) vs)) ≤ 2 * weight vs + (8 + encoded_length v) →
        1603 * length (others (cut (n + encoded_length v) vs)) ≤ 2 * weight vs + (n + encoded_length v) →
        1603 * length (others (pick c ([] ∷ onto v (cut (8 + encoded_length v) vs)) (onto v (cut (n + encoded_length v) vs)))) ≤ 2 * weight (v ∷ vs) + n
    go true e begun more = let l = ltb-true block_limit (n + encoded_length v) e in rw (onto_is v (cut (8 + encoded_length v) vs)) (omega arith)
    go false e begun more = rw (onto_is v (cut (n + encoded_length v) vs)) (omega arith)

few_blocks : (vs : List Version) → length (blocks vs) ≤ most_blocks (weight vs)
unfolding blocks added_up
few_blocks [] = omega arith
few_blocks (v ∷ vs) = let h = cut_count vs (8 + encoded_length v) in rw (onto_is v (cut (8 + encoded_length v) vs)) (omega arith)

pub length_entries : (at : ℕ) (bs : List (List Version)) → length (entries at bs) ≡ 8 * length bs
unfolding entries
length_entries at [] = refl
length_entries at (b ∷ bs) =
    let e = length-append (entry at (block_length b)) (entries (at + block_length b) bs) in
    omega (arith, e, length_entry at (block_length b), length_entries (at + block_length b) bs)

pub length_stream : (p : List Version) (bs : List (List Version)) → SomeIn bs → length (stream_of_blocks p bs) ≡ blocks_length bs
unfolding stream_of_blocks added_up
length_stream p [] s = refl
length_stream p (b ∷ bs) s =
    length-append (block_bytes p b) (stream_of_blocks (last_one p b) bs) ∙ rw (length_block p b s.0, length_stream (last_one p b) bs s.1) refl

abbrev version_weight : Version → ℕ
version_weight v = 64 + length v.key + length v.value

-- the bytes of all blocks, by their number and the number and weight of their versions
pub added_append : (f : Version → ℕ) (xs ys : List Version) → added_up f (xs ++ ys) ≡ added_up f xs + added_up f ys
unfolding added_up
added_append f [] ys = omega arith
added_append f (x ∷ xs) ys = let h = added_append f xs ys in omega arith

weighs_more : (vs : List Version) → versions_length vs + 49 * length vs ≡ weight vs
unfolding added_up
weighs_more [] = refl
weighs_more (v ∷ vs) = let h = weighs_more vs in omega arith

blocks_weigh : (bs : List (List Version)) → SomeIn bs → (blocks_length bs + 49 * length (joined bs) ≡ weight (joined bs) + 8 * length bs) × (length bs ≤ length (joined bs))
unfolding added_up joined
blocks_weigh [] s = (refl, omega arith)
blocks_weigh (b ∷ bs) s =
    let (e, l) = blocks_weigh bs s.1 in
    let w = weighs_more b in
    let a = added_append version_weight b (joined bs) in
    let n = length-append b (joined bs) in
    (omega (arith, a, n), omega (arith, n, s.0))

light : (vs : List Version) → every in_limits vs ≡ true → weight vs ≤ 1343 * length vs
unfolding added_up every
light [] f = omega arith
light (v ∷ vs) f =
    let s = short_version v (and_left_of (in_limits v) (every in_limits vs) f) in
    let h = light vs (and_right_of (in_limits v) (every in_limits vs) f) in
    omega arith

few_pages : (w l n b : ℕ) → l + 49 * n ≡ w + 8 * b → b ≤ n → w ≤ 1343 * n → position_pages w + page_count l ≤ most_pages w
few_pages w l n b e h k = omega arith

pub table_fits : TableFits
table_fits vs f =
    let (e, s) = blocks_hold vs in
    let (w, l) = blocks_weigh (blocks vs) s in
    let len : length (table_stream vs) ≡ blocks_length (blocks vs) = ap length (stream_is_blocks vs) ∙ length_stream [] (blocks vs) s in (
      ap length (entries_are_blocks vs) ∙ length_entries 0 (blocks vs),
      few_blocks vs,
      rw len (few_pages (weight vs) (blocks_length (blocks vs)) (length vs) (length (blocks vs)) (rw e at w) (rw e at l) (light vs f)),
    )
