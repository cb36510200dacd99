-- The list's page: its words are read back from their bytes, and so is the list.
use Rattle.std.proofs.Common.{◌≡◌, ℕ, zero, suc, ◌+◌, ◌*◌, ◌/◌, ◌%◌, ◌<◌, ◌≤◌, Bool, true, false, eqb, ◌⊎◌, List, [], ◌∷◌, ◌++◌, length, get_or, take, drop, sym, refl, ap, ◌∙◌, inl, inr, arith, eq-eqb, le-leb}
use native.Mathlib.Nat.{div-div-eq-div-mul}
use Rattle.std.proofs.lemmas.List.{append_assoc, append-nil, drop_all, drop_at, drop-drop, drop_more, ext_get_or, length-append, length-drop, length-take-le, take_all, take_at, take_more}
use Rattle.std.proofs.lemmas.Bool.{cases_lt}
use Rattle.std.specs.Int.{from_bool}
use Rattle.value.specs.Versions.{every}
use Rattle.value.specs.Numbers.{number, bytes_of, put_at, is_byte, all_bytes}
use Rattle.value.proofs.NumberLaws.{number_bytes_of, length_bytes_of, all_bytes_of, bytes_8}
use Rattle.value.proofs.TestLaws.{every_append}
use Rattle.table.specs.Device.{zeros, a_page}
use Rattle.table.specs.Sum.{page_sum, sealed_page, is_sound}
use Rattle.table.specs.Stream.{payload, sealed}
use Rattle.table.proofs.SumLaws.{sum_front}
use Rattle.table.proofs.StreamLaws.{payload_front, sealed_page_is}
use Rattle.manifest.specs.declared.fields.Half.{Half}
use Rattle.manifest.specs.declared.fields.Half.TheVariants.{First, Second}
use Rattle.manifest.specs.declared.fields.Manifest.{Manifest}
use Rattle.manifest.specs.Manifest.{word_at, words_from, row_of, pair_of, half_of, half_number, flag, words_of, manifest_page, manifest_in, is_whole, empty_manifest, Fits, PageReadsBack}

-- words in a row
pub length_row : (ws : List ℕ) → length (row_of ws) ≡ 8 * length ws
unfolding row_of
length_row [] = refl
length_row (w ∷ ws) = omega (arith, length-append (bytes_of 8 w) (row_of ws), length_bytes_of 8 w, length_row ws)

all_bytes_row : (ws : List ℕ) → all_bytes (row_of ws) ≡ true
unfolding row_of every
all_bytes_row [] = refl
all_bytes_row (w ∷ ws) = every_append is_byte (bytes_of 8 w) (row_of ws) (all_bytes_of 8 w) (all_bytes_row ws)

row_append : (us ws : List ℕ) → row_of (us ++ ws) ≡ row_of us ++ row_of ws
unfolding row_of
row_append [] ws = refl
row_append (u ∷ us) ws = ap (λ l. bytes_of 8 u ++ l) (row_append us ws) ∙ sym (append_assoc (bytes_of 8 u) (row_of us) (row_of ws))

drop_row : (i : ℕ) (ws rest : List ℕ) → i ≤ length ws → drop (8 * i) (row_of ws ++ rest) ≡ row_of (drop i ws) ++ rest
unfolding row_of
drop_row zero ws rest h = refl
drop_row (suc i) [] rest h = absurd (omega arith)
drop_row (suc i) (w ∷ ws) rest h =
    let e : 8 * suc i ≡ 8 + 8 * i = omega arith in
    ap (λ k. drop k (row_of (w ∷ ws) ++ rest)) e
    ∙ sym (drop-drop (8 * i) 8 (row_of (w ∷ ws) ++ rest))
    ∙ ap (λ l. drop (8 * i) (drop 8 l)) (append_assoc (bytes_of 8 w) (row_of ws) rest)
    ∙ ap (drop (8 * i)) (drop_at (bytes_of 8 w) (row_of ws ++ rest) 8 (length_bytes_of 8 w))
    ∙ drop_row i ws rest (omega arith)

word_in_row : (i : ℕ) (ws rest : List ℕ) → i < length ws → get_or ws i 0 < 18446744073709551616 → word_at i (row_of ws ++ rest) ≡ get_or ws i 0
unfolding word_at row_of
word_in_row i ws rest h small =
    let w = get_or ws i 0 in
    let back = row_of (drop (i + 1) ws) ++ rest in
    let here : drop (8 * i) (row_of ws ++ rest) ≡ bytes_of 8 w ++ back =
    drop_row i ws rest (omega arith) ∙ ap (λ l. row_of l ++ rest) (drop_more ws i 0 h) ∙ append_assoc (bytes_of 8 w) (row_of (drop (i + 1) ws)) rest in
    ap (λ l. number (take 8 l) % 18446744073709551616) here
    ∙ ap (λ l. number l % 18446744073709551616) (take_at (bytes_of 8 w) back 8 (length_bytes_of 8 w))
    ∙ omega (arith, number_bytes_of 8 w small)

-- the page: its words, and its sum
length_words : (m : Manifest) → length (words_of m) ≡ 63
unfolding words_of
length_words m = refl

length_list : (m : Manifest) → length (row_of (words_of m)) ≡ 504
length_list m = omega (arith, length_row (words_of m), length_words m)

payload_list : (m : Manifest) → payload (row_of (words_of m)) ≡ row_of (words_of m)
payload_list m = ap payload (sym (append-nil (row_of (words_of m)))) ∙ payload_front (row_of (words_of m)) [] (length_list m)

pub page_word : (m : Manifest) (i : ℕ) → i < 63 → get_or (words_of m) i 0 < 18446744073709551616 → word_at i (manifest_page m) ≡ get_or (words_of m) i 0
unfolding manifest_page sealed
page_word m i h small =
    ap (λ l. word_at i (l ++ bytes_of 8 (page_sum (payload (row_of (words_of m)))))) (payload_list m)
    ∙ word_in_row i (words_of m) _ (omega (arith, length_words m)) small

pub page_is : (m : Manifest) → (a_page (manifest_page m) ≡ true) × (is_sound (manifest_page m) ≡ true)
unfolding manifest_page
page_is m = sealed_page_is (row_of (words_of m)) (all_bytes_row (words_of m))

pub page_whole : (m : Manifest) → m.commit < 18446744073709551616 → is_whole (manifest_page m) ≡ true
unfolding words_of
page_whole m h = eq-eqb _ _ (page_word m 0 (omega arith) h ∙ sym (page_word m 62 (omega arith) h))

half_back : (h : Half) → half_of (half_number h) ≡ h
half_back First = refl
half_back Second = refl

flag_back : (b : Bool) → eqb (flag b) 1 ≡ b
flag_back true = refl
flag_back false = refl

pub flag_is : (b : Bool) → from_bool b ≡ flag b
flag_is true = refl
flag_is false = refl

half_small : (h : Half) → half_number h < 18446744073709551616
half_small First = omega arith
half_small Second = omega arith

flag_small : (b : Bool) → flag b < 18446744073709551616
flag_small true = omega arith
flag_small false = omega arith

pair_low : (a b : ℕ) → a < 4294967296 → pair_of a b % 4294967296 ≡ a
pair_low a b h = omega arith

pair_high : (a b : ℕ) → b < 4294967296 → pair_of a b / 4294967296 ≡ b
pair_high a b h = omega arith

pair_small : (a b : ℕ) → pair_of a b < 18446744073709551616
pair_small a b = omega arith

pub page_back : (m : Manifest) → Fits m → manifest_in (manifest_page m) ≡ m
unfolding manifest_in words_of
page_back m f =
    let t = m.table in
    let first = page_word m 10 (omega arith) (pair_small t.start t.data_at) in
    let second = page_word m 11 (omega arith) (pair_small t.size t.blocks) in
    let half = ap half_of (page_word m 3 (omega arith) (half_small m.layout.half)) ∙ half_back m.layout.half in
    let exact = ap (λ n. eqb n 1) (page_word m 8 (omega arith) (flag_small m.weight.exact)) ∙ flag_back m.weight.exact in
    let start = ap (λ w. w % 4294967296) first ∙ pair_low t.start t.data_at f.start in
    let at = ap (λ w. w / 4294967296) first ∙ pair_high t.start t.data_at f.first_data in
    let size = ap (λ w. w % 4294967296) second ∙ pair_low t.size t.blocks f.size in
    let blocks = ap (λ w. w / 4294967296) second ∙ pair_high t.size t.blocks f.blocks in
    λ j. record {
      commit = page_word m 0 (omega arith) f.commit j;
      layout = record { pages = page_word m 2 (omega arith) f.pages j; half = half j; free = page_word m 4 (omega arith) f.free j };
      moments = record { last = page_word m 5 (omega arith) f.last j; low = page_word m 6 (omega arith) f.low j };
      weight = record { all = page_word m 7 (omega arith) f.all j; exact = exact j };
      tables = page_word m 9 (omega arith) f.tables j;
      table = record {
        start = start j;
        data_at = at j;
        size = size j;
        blocks = blocks j;
        level = page_word m 12 (omega arith) f.level j;
        latest = page_word m 13 (omega arith) f.latest j;
      };
    }

pub blank_says : manifest_in (zeros 512) ≡ empty_manifest
unfolding manifest_in word_at number zeros
blank_says = refl

pub blank_whole : is_whole (zeros 512) ≡ true
unfolding word_at number zeros
blank_whole = refl

pub word_below : (i : ℕ) (p : List ℕ) → word_at i p < 18446744073709551616
unfolding word_at
word_below i p = omega arith

pub any_fits : (p : List ℕ) → Fits (manifest_in p)
unfolding manifest_in
any_fits p = record {
  commit = word_below 0 p;
  pages = word_below 2 p;
  free = word_below 4 p;
  last = word_below 5 p;
  low = word_below 6 p;
  all = word_below 7 p;
  tables = word_below 9 p;
  start = omega arith;
  first_data = omega (arith, word_below 10 p);
  size = omega arith;
  blocks = omega (arith, word_below 11 p);
  level = word_below 12 p;
  latest = word_below 13 p;
}

-- the bytes of a pair
pair_bytes : (a b : ℕ) → bytes_of 8 (pair_of a b) ≡ bytes_of 4 a ++ bytes_of 4 b
unfolding bytes_of
pair_bytes a b =
    sym (bytes_8 (pair_of a b))
    ∙ (λ j. e₀ j ∷ e₁ j ∷ e₂ j ∷ e₃ j ∷ f₀ j ∷ f₁ j ∷ f₂ j ∷ f₃ j ∷ [])
    ∙ simp div-div-eq-div-mul
  where
    e₀ : pair_of a b % 256 ≡ a % 256
    e₀ = omega arith

    e₁ : pair_of a b / 256 % 256 ≡ a / 256 % 256
    e₁ = omega arith

    e₂ : pair_of a b / 65536 % 256 ≡ a / 65536 % 256
    e₂ = omega arith

    e₃ : pair_of a b / 16777216 % 256 ≡ a / 16777216 % 256
    e₃ = omega arith

    f₀ : pair_of a b / 4294967296 % 256 ≡ b % 256
    f₀ = omega arith

    f₁ : pair_of a b / 1099511627776 % 256 ≡ b / 256 % 256
    f₁ = omega arith

    f₂ : pair_of a b / 281474976710656 % 256 ≡ b / 65536 % 256
    f₂ = omega arith

    f₃ : pair_of a b / 72057594037927936 % 256 ≡ b / 16777216 % 256
    f₃ = omega arith

pub page_reads_back : PageReadsBack
page_reads_back = record {
  back = page_back;
  whole = λ m f. page_whole m f.commit;
  page = λ m. (page_is m).0;
  sound = λ m. (page_is m).1;
  any = any_fits;
  pairs = pair_bytes;
  none = (blank_says, blank_whole);
}

-- writing the page word by word
pub row_next : (i : ℕ) (ws old row : List ℕ) → i < length ws → row ≡ row_of (take i ws) ++ drop (8 * i) old →
    put_at (8 * i) (bytes_of 8 (get_or ws i 0)) row ≡ row_of (take (i + 1) ws) ++ drop (8 * (i + 1)) old
unfolding row_of
row_next i ws old row h e =
    let w = bytes_of 8 (get_or ws i 0) in
    let front = row_of (take i ws) in
    let long : length front ≡ 8 * i = omega (arith, length_row (take i ws), length-take-le i ws (omega arith)) in
    let t : take (8 * i) row ≡ front = ap (take (8 * i)) e ∙ take_at front (drop (8 * i) old) (8 * i) long in
    let n : 8 * i + 8 ≡ 8 * (i + 1) = omega arith in
    let d : drop (length w) (drop (8 * i) row) ≡ drop (8 * (i + 1)) old =
    ap (λ l. drop (length w) (drop (8 * i) l)) e
    ∙ ap (drop (length w)) (drop_at front (drop (8 * i) old) (8 * i) long)
    ∙ ap (λ k. drop k (drop (8 * i) old)) (length_bytes_of 8 (get_or ws i 0))
    ∙ drop-drop 8 (8 * i) old ∙ ap (λ k. drop k old) n in
    let more : front ++ w ≡ row_of (take (i + 1) ws) =
    ap (λ l. front ++ l) (sym (append-nil w)) ∙ sym (row_append (take i ws) (get_or ws i 0 ∷ [])) ∙ ap row_of (sym (take_more ws i 0 h)) in
    (λ j. t j ++ (w ++ d j)) ∙ sym (append_assoc front w (drop (8 * (i + 1)) old)) ∙ ap (λ l. l ++ drop (8 * (i + 1)) old) more

-- a page is sealed in place
sealed_over : (bs rest : List ℕ) → length bs ≡ 504 → length rest ≡ 8 → sealed_page (bs ++ rest) ≡ sealed bs
unfolding sealed_page sealed
sealed_over bs rest l k =
    let sum = bytes_of 8 (page_sum (bs ++ rest)) in
    let p : payload bs ≡ bs = ap payload (sym (append-nil bs)) ∙ payload_front bs [] l in
    let s : page_sum (bs ++ rest) ≡ page_sum (payload bs) = sum_front bs rest l ∙ ap page_sum (sym p) in
    let d : drop (length sum) (drop 504 (bs ++ rest)) ≡ [] = ap (drop (length sum)) (drop_at bs rest 504 l) ∙ drop_all (length sum) rest (omega (arith, length_bytes_of 8 (page_sum (bs ++ rest)))) in
    rw (le-leb 512 (length (bs ++ rest)) (omega (arith, length-append bs rest)))
    ((λ j. take_at bs rest 504 l j ++ (sum ++ d j)) ∙ ap (λ l. bs ++ l) (append-nil sum) ∙ (λ j. sym p j ++ bytes_of 8 (s j)))

pub page_written : (m : Manifest) (i : ℕ) (ws old row : List ℕ) → 63 ≤ i → i ≤ 63 → ws ≡ words_of m → length old ≡ 512 →
    row ≡ row_of (take i ws) ++ drop (8 * i) old → sealed_page row ≡ manifest_page m
unfolding manifest_page
page_written m i ws old row g h e l r =
    let n : i ≡ 63 = omega arith in
    let all : take i ws ≡ words_of m = (λ j. take (n j) (e j)) ∙ take_all 63 (words_of m) (omega (arith, length_words m)) in
    ap sealed_page (r ∙ (λ j. row_of (all j) ++ drop (8 * n j) old)) ∙ sealed_over (row_of (words_of m)) (drop 504 old) (length_list m) (omega (arith, length-drop 504 old))

-- reading the words
get_or_words : (n i k : ℕ) (p : List ℕ) → k < n → get_or (words_from i n p) k 0 ≡ word_at (i + k) p
unfolding words_from
get_or_words zero i k p h = absurd (omega arith)
get_or_words (suc n) i zero p h = let e : i ≡ i + 0 = omega arith in ap (λ k. word_at k p) e
get_or_words (suc n) i (suc k) p h = let e : suc i + k ≡ i + suc k = omega arith in get_or_words n (suc i) k p (omega arith) ∙ ap (λ k. word_at k p) e

length_words_from : (n i : ℕ) (p : List ℕ) → length (words_from i n p) ≡ n
unfolding words_from
length_words_from zero i p = refl
length_words_from (suc n) i p = ap suc (length_words_from n (suc i) p)

no_word : (k : ℕ) (p : List ℕ) → length p ≤ 8 * k → word_at k p ≡ 0
unfolding word_at number
no_word k p h = ap (λ l. number (take 8 l) % 18446744073709551616) (drop_all (8 * k) p h)

pub words_read : (i : ℕ) (ws p : List ℕ) → length ws ≡ 14 → (14 ≤ i) ⊎ (length p ≤ 8 * i) →
    ((k : ℕ) → k < i → get_or ws k 0 ≡ word_at k p) → ((k : ℕ) → i ≤ k → get_or ws k 0 ≡ 0) → ws ≡ words_from 0 14 p
words_read i ws p l stop done rest =
    ext_get_or 0 ws (words_from 0 14 p) (l ∙ sym (length_words_from 14 0 p)) (λ k h. each k (cases_lt k i) stop h ∙ same k (omega arith))
  where
    same : (k : ℕ) → k < 14 → word_at k p ≡ get_or (words_from 0 14 p) k 0
    same k h = let e : 0 + k ≡ k = omega arith in ap (λ j. word_at j p) (sym e) ∙ sym (get_or_words 14 0 k p h)

    each : (k : ℕ) → (k < i) ⊎ (i ≤ k) → (14 ≤ i) ⊎ (length p ≤ 8 * i) → k < length ws → get_or ws k 0 ≡ word_at k p
    each k (inl h) s g = done k h
    each k (inr h) (inl s) g = absurd (omega arith)
    each k (inr h) (inr s) g = rest k h ∙ sym (no_word k p (omega arith))
