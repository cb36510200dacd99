-- What a writer writes, a version at a time, are the blocks, one behind another.
use Rattle.std.proofs.Common.{◌≡◌, ℕ, ◌+◌, Bool, true, false, List, [], ◌∷◌, ◌++◌, sym, refl, ap, ◌∙◌, append_assoc, append-nil, arith, lt-ltb}
use Rattle.value.specs.Versions.{pick, Version, added_up}
use Rattle.value.specs.Numbers.{bytes_of}
use Rattle.value.specs.Encoding.{encoding, encoded_length, encode_all}
use Rattle.table.specs.Blocks.{bound_of, last_one}
use Rattle.table.specs.Layout.{block_limit, starts, onto, cut, blocks, block_bytes, stream_of_blocks, stream_from, versions_length, entry, entries, entries_from, table_entries, StreamIsBlocks, EntriesAreBlocks}

-- what is left of the block being written, and the others
abbrev pub first : List (List Version) → List Version
first [] = []
first (b ∷ bs) = b

abbrev pub others : List (List Version) → List (List Version)
others [] = []
others (b ∷ bs) = bs

first_onto : (v : Version) (bs : List (List Version)) → first (onto v bs) ≡ v ∷ first bs
unfolding onto
first_onto v [] = refl
first_onto v (b ∷ bs) = refl

others_onto : (v : Version) (bs : List (List Version)) → others (onto v bs) ≡ others bs
unfolding onto
others_onto v [] = refl
others_onto v (b ∷ bs) = refl

pub onto_is : (v : Version) (bs : List (List Version)) → onto v bs ≡ (v ∷ first bs) ∷ others bs
unfolding onto
onto_is v [] = refl
onto_is v (b ∷ bs) = refl

stream_cut : (vs : List Version) (n : ℕ) (p : List Version) →
    stream_from n p vs ≡ encode_all (first (cut n vs)) ++ stream_of_blocks (last_one p (first (cut n vs))) (others (cut n vs))
unfolding stream_from cut encode_all stream_of_blocks last_one block_bytes
stream_cut [] n p = refl
stream_cut (v ∷ vs) n p =
    let begun = stream_cut vs (8 + encoded_length v) (v ∷ []) in
    let more = stream_cut vs (n + encoded_length v) (v ∷ []) in
    go (starts n v) (onto v (cut (8 + encoded_length v) vs)) (onto v (cut (n + encoded_length v) vs)) (onto_is v _) (onto_is v _) begun more
  where
    go : (b : Bool) (xs ys : List (List Version)) →
        xs ≡ (v ∷ first (cut (8 + encoded_length v) vs)) ∷ others (cut (8 + encoded_length v) vs) →
        ys ≡ (v ∷ first (cut (n + encoded_length v) vs)) ∷ others (cut (n + encoded_length v) vs) →
        stream_from (8 + encoded_length v) (v ∷ []) vs ≡ encode_all (first (cut (8 + encoded_length v) vs)) ++ stream_of_blocks (last_one (v ∷ []) (first (cut (8 + encoded_length v) vs))) (others (cut (8 + encoded_length v) vs)) →
        stream_from (n + encoded_length v) (v ∷ []) vs ≡ encode_all (first (cut (n + encoded_length v) vs)) ++ stream_of_blocks (last_one (v ∷ []) (first (cut (n + encoded_length v) vs))) (others (cut (n + encoded_length v) vs)) →
        pick b (bytes_of 8 (bound_of p v) ++ (encoding v ++ stream_from (8 + encoded_length v) (v ∷ []) vs)) (encoding v ++ stream_from (n + encoded_length v) (v ∷ []) vs)
        ≡ encode_all (first (pick b ([] ∷ xs) ys)) ++ stream_of_blocks (last_one p (first (pick b ([] ∷ xs) ys))) (others (pick b ([] ∷ xs) ys))
    go true xs ys e f begun more = simp (e, begun, append_assoc)
    go false xs ys e f begun more = simp (f, more, append_assoc)

-- no block is there before the first version
starts_first : (v : Version) → starts block_limit v ≡ true
unfolding starts
starts_first v = lt-ltb block_limit (block_limit + encoded_length v) (omega arith)

pub stream_is_blocks : StreamIsBlocks
unfolding blocks stream_from stream_of_blocks block_bytes encode_all last_one
stream_is_blocks [] = refl
stream_is_blocks (v ∷ vs) = simp (starts_first v, onto_is, stream_cut vs (8 + encoded_length v) (v ∷ []), append_assoc)

entries_cut : (vs : List Version) (b n l : ℕ) → l ≡ n + versions_length (first (cut n vs)) → entries_from b n vs ≡ entry b l ++ entries (b + l) (others (cut n vs))
unfolding entries_from cut entries added_up
entries_cut [] b n l e = let z : n ≡ l = omega arith in ap (entry b) z ∙ sym (append-nil (entry b l))
entries_cut (v ∷ vs) b n l e =
    go (starts n v) (cut (8 + encoded_length v) vs) (cut (n + encoded_length v) vs) e
    (entries_cut vs (b + n) (8 + encoded_length v)) (entries_cut vs b (n + encoded_length v) l)
  where
    go : (c : Bool) (xs ys : List (List Version)) → l ≡ n + versions_length (first (pick c ([] ∷ onto v xs) (onto v ys))) →
        ((m : ℕ) → m ≡ (8 + encoded_length v) + versions_length (first xs) → entries_from (b + n) (8 + encoded_length v) vs ≡ entry (b + n) m ++ entries ((b + n) + m) (others xs)) →
        (l ≡ (n + encoded_length v) + versions_length (first ys) → entries_from b (n + encoded_length v) vs ≡ entry b l ++ entries (b + l) (others ys)) →
        pick c (entry b n ++ entries_from (b + n) (8 + encoded_length v) vs) (entries_from b (n + encoded_length v) vs) ≡ entry b l ++ entries (b + l) (others (pick c ([] ∷ onto v xs) (onto v ys)))
    go true xs ys e begun more =
        let z : l ≡ n = omega arith in
        let m : 8 + versions_length (v ∷ first xs) ≡ (8 + encoded_length v) + versions_length (first xs) = omega arith in
        simp (z, onto_is, begun (8 + versions_length (v ∷ first xs)) m)
    go false xs ys e begun more =
        let q : versions_length (first (onto v ys)) ≡ encoded_length v + versions_length (first ys) = simp first_onto in
        rw (others_onto v ys) (more (omega arith))

pub entries_are_blocks : EntriesAreBlocks
unfolding blocks table_entries entries added_up
entries_are_blocks [] = refl
entries_are_blocks (v ∷ vs) =
    let m : 8 + versions_length (v ∷ first (cut (8 + encoded_length v) vs)) ≡ (8 + encoded_length v) + versions_length (first (cut (8 + encoded_length v) vs)) = omega arith in
    simp (onto_is, entries_cut vs 0 (8 + encoded_length v) (8 + versions_length (v ∷ first (cut (8 + encoded_length v) vs))) m)
