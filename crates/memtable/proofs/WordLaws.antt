-- Packed rows: how long they are, what they hold, and the loops that write and read them.
use Rattle.std.proofs.Common.{◌≡◌, ℕ, zero, suc, ◌+◌, ◌-◌, ◌*◌, ◌%◌, ◌<◌, ◌≤◌, List, [], ◌∷◌, ◌++◌, length, get_or, take, drop, set, min, sym, refl, ap, ◌∙◌, add-one, arith, rules}
use lib.Seq.{paste}
use Rattle.std.proofs.lemmas.List.FromFn.{length-map-range_with_len, get_or-map-range_with_len}
use Rattle.std.proofs.lemmas.List.Edits.{paste_none, paste_more, paste_all}
use Rattle.std.proofs.lemmas.List.{append_assoc, take_more, drop_more, take_at, drop_at, drop-drop, length-take, length-drop, length-append, length-take-le, set-append_right, set_split, places, same_lists}
use Rattle.std.proofs.lemmas.Bool.Decides.{nat_tests}
use Rattle.value.specs.Count.{smaller}
use Rattle.std.specs.Int.{w64, from_be_bytes}
use Rattle.value.specs.Numbers.{part}
use Rattle.value.specs.Padded.{padded}
use Rattle.memtable.specs.Words.{octet, word, words, packed_word, pack, byte_behind, row, laid, put_row}

-- the row that is cut to eight numbers, as one word
get_or_padded : (n i : ℕ) (xs : List ℕ) → i < n → get_or (padded n xs) i 0 ≡ get_or xs i 0
unfolding padded
get_or_padded zero i xs h = absurd (omega arith)
get_or_padded (suc n) zero [] h = refl
get_or_padded (suc n) zero (x ∷ xs) h = refl
get_or_padded (suc n) (suc i) [] h = get_or_padded n i [] (omega arith)
get_or_padded (suc n) (suc i) (x ∷ xs) h = get_or_padded n i xs (omega arith)

pub first_is_word : (bs ys : List ℕ) (n : ℕ) → ((i : ℕ) → get_or bs i 0 < 256) → ys ≡ padded 8 bs → n ≡ from_be_bytes w64 ys → n ≡ word bs 0
first_is_word bs ys n small f e =
    let p = λ (i : ℕ) (h : i < 8). get_or_padded 8 i bs h in
    e ∙ ap (from_be_bytes w64) f
    ∙ omega (
      arith,
      p 0 (omega arith),
      p 1 (omega arith),
      p 2 (omega arith),
      p 3 (omega arith),
      p 4 (omega arith),
      p 5 (omega arith),
      p 6 (omega arith),
      p 7 (omega arith),
      small 0,
      small 1,
      small 2,
      small 3,
      small 4,
      small 5,
      small 6,
      small 7,
    )

octet_part : (k i : ℕ) (bs : List ℕ) → i < 8 → octet (part k 8 bs) i ≡ octet bs (k + i)
octet_part k i bs h = ap (λ b. b % 256) (grind (arith, places))

pub word_part : (bs cut : List ℕ) (k n : ℕ) → cut ≡ part k 8 bs → n ≡ word cut 0 → n ≡ word bs k
word_part bs cut k n c e =
    let p = λ (i : ℕ) (h : i < 8). octet_part k i bs h in
    let z : k + 0 ≡ k = omega arith in
    e ∙ ap (λ l. word l 0) c
    ∙ omega (
      arith,
      ap (octet bs) z,
      p 0 (omega arith),
      p 1 (omega arith),
      p 2 (omega arith),
      p 3 (omega arith),
      p 4 (omega arith),
      p 5 (omega arith),
      p 6 (omega arith),
      p 7 (omega arith),
    )

pub length_pack : (bs : List ℕ) → length (pack bs) ≡ words (length bs)
unfolding pack
length_pack bs = length-map-range_with_len (packed_word bs) 0 (words (length bs))

pub get_or_pack : (bs : List ℕ) (k : ℕ) → k < words (length bs) → get_or (pack bs) k 0 ≡ word bs (8 * k)
unfolding pack packed_word
get_or_pack bs k h = get_or-map-range_with_len (packed_word bs) 0 (words (length bs)) k k 0 h (omega arith)

pub length_row : (ws : List ℕ) (p s n : ℕ) → length (row ws p s n) ≡ n
unfolding row
length_row ws p s n = length-map-range_with_len (byte_behind ws p s) 0 n

pub get_or_row : (ws : List ℕ) (p s n i : ℕ) → i < n → get_or (row ws p s n) i 0 ≡ byte_behind ws p s i
unfolding row
get_or_row ws p s n i h = get_or-map-range_with_len (byte_behind ws p s) 0 n i i 0 h (omega arith)

-- a chunk of eight bytes off what is left of a row is its next word
pub record Cut (bs chunk rest : List ℕ) (k : ℕ) : Type 0 where
  pub within : k < words (length bs)
  pub is : word chunk 0 ≡ word bs (8 * k)
  pub left : rest ≡ drop (8 * (k + 1)) bs

pub cut_off : (bs left chunk rest : List ℕ) (k size : ℕ) → left ≡ drop (8 * k) bs → size ≡ 8 → left ≡ chunk ++ rest → length chunk ≡ min size (length left) → 0 < length left →
    Cut bs chunk rest k
cut_off bs left chunk rest k size e z f l h =
    let n : length left ≡ length bs - 8 * k = omega (arith, ap length e, length-drop (8 * k) bs) in
    let m : length left ≡ length chunk + length rest = ap length f ∙ length-append chunk rest in
    let c : chunk ≡ take 8 (chunk ++ rest) = same_lists _ _ (grind (arith, places)) (λ k d h. grind (arith, places)) in
    let r : rest ≡ drop 8 (chunk ++ rest) = same_lists _ _ (grind (arith, places)) (λ k d h. grind (arith, places)) in
    let g : chunk ++ rest ≡ drop (8 * k) bs = sym f ∙ e in
    let s : 8 * k + 8 ≡ 8 * (k + 1) = omega arith in
    record {
      within = omega arith;
      is = word_part bs chunk (8 * k) _ (c ∙ ap (take 8) g) refl;
      left = r ∙ ap (drop 8) g ∙ drop-drop 8 (8 * k) bs ∙ ap (λ i. drop i bs) s;
    }

-- the loop that writes a packed row
pub pack_begun : (ws : List ℕ) (at : ℕ) (bs : List ℕ) (n : ℕ) → n ≡ 0 → ws ≡ paste ws at (pack bs) n
pack_begun ws at bs n e = rw e (paste_none ws at (pack bs))

pub pack_more : (ws : List ℕ) (at : ℕ) (bs : List ℕ) (k : ℕ) → at + k < length ws → k < words (length bs) →
    set (paste ws at (pack bs) k) (at + k) (word bs (8 * k)) ≡ paste ws at (pack bs) (k + 1)
pack_more ws at bs k p q =
    ap (set (paste ws at (pack bs) k) (at + k)) (sym (get_or_pack bs k q)) ∙ paste_more ws at (pack bs) k 0 p (omega (arith, length_pack bs))

pub pack_all : (ws : List ℕ) (at : ℕ) (bs : List ℕ) (n : ℕ) → n ≡ words (length bs) → paste ws at (pack bs) n ≡ put_row ws at (pack bs)
unfolding put_row
pack_all ws at bs n e =
    let l : n ≡ length (pack bs) = e ∙ sym (length_pack bs) in
    paste_all ws at (pack bs) n l ∙ ap (λ k. take at ws ++ (pack bs ++ drop (at + k) ws)) l

-- the loop that lays a row over another
abbrev pub laid_so_far : List ℕ → List ℕ → ℕ → List ℕ
laid_so_far bs out i = take i bs ++ drop i out

pub laid_more : (bs out : List ℕ) (i b : ℕ) → i < length bs → i < length out → b ≡ get_or bs i 0 → set (laid_so_far bs out i) i b ≡ laid_so_far bs out (i + 1)
laid_more bs out i b p q e =
    let f = drop_more out i 0 q in
    let t = take_more bs i 0 p in
    rw (f, t, e) (
    set-append_right (take i bs) (get_or out i 0 ∷ drop (i + 1) out) i i (get_or bs i 0) (length-take-le i bs (omega arith)) (omega arith)
    ∙ let z : i - i ≡ 0 = omega arith in rw z (sym (append_assoc (take i bs) (get_or bs i 0 ∷ []) (drop (i + 1) out)))
    )

pub laid_all : (bs out so_far : List ℕ) (i m n : ℕ) → length bs ≡ n → m ≡ min n (length out) → i ≡ m → so_far ≡ laid_so_far bs (take m out) i → so_far ++ drop m out ≡ laid bs out
unfolding laid
laid_all bs out so_far i m n l e f g =
    ap (λ xs. xs ++ drop m out) (g ∙ ap (laid_so_far bs (take m out)) f) ∙ same_lists _ _ (search (rules, places)) (λ k d h. grind (arith, places))

-- words written one after another
pub put_one : (ws : List ℕ) (i x : ℕ) → i < length ws → set ws i x ≡ put_row ws i (x ∷ [])
unfolding put_row
put_one ws i x h = rw add-one (set_split ws i x h)

pub length_put : (ws : List ℕ) (at : ℕ) (xs : List ℕ) → at + length xs ≤ length ws → length (put_row ws at xs) ≡ length ws
unfolding put_row
length_put ws at xs h = simp (length-append, length-take, length-drop) (omega arith)

pub put_put : (ws : List ℕ) (at next : ℕ) (xs ys : List ℕ) → next ≡ at + length xs → at ≤ length ws → put_row (put_row ws at xs) next ys ≡ put_row ws at (xs ++ ys)
unfolding put_row
put_put ws at next xs ys e h =
    let a : length (take at ws) ≡ at = length-take-le at ws h in
    let b : length (take at ws ++ xs) ≡ next = length-append (take at ws) xs ∙ omega arith in
    let w : take at ws ++ (xs ++ drop (at + length xs) ws) ≡ (take at ws ++ xs) ++ drop (at + length xs) ws = sym (append_assoc (take at ws) xs (drop (at + length xs) ws)) in
    let d : drop (next + length ys) ((take at ws ++ xs) ++ drop (at + length xs) ws) ≡ drop (at + length (xs ++ ys)) ws =
    sym (drop-drop (length ys) next ((take at ws ++ xs) ++ drop (at + length xs) ws))
    ∙ ap (drop (length ys)) (drop_at (take at ws ++ xs) (drop (at + length xs) ws) next b)
    ∙ drop-drop (length ys) (at + length xs) ws
    ∙ ap (λ k. drop k ws) (let l = length-append xs ys in omega arith) in
    rw (w, take_at (take at ws ++ xs) (drop (at + length xs) ws) next b, d)
    (append_assoc (take at ws) xs (ys ++ drop (at + length (xs ++ ys)) ws) ∙ ap (λ l. take at ws ++ l) (sym (append_assoc xs ys (drop (at + length (xs ++ ys)) ws))))
