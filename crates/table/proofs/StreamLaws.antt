-- A stream comes back from its pages, whole and in spans.
use Rattle.std.proofs.Common.{◌≡◌, ℕ, zero, suc, ◌+◌, ◌-◌, ◌*◌, ◌/◌, ◌%◌, ◌<◌, ◌≤◌, true, List, [], ◌∷◌, ◌++◌, length, take, drop, replicate, sym, refl, ap, ◌∙◌, ⊎_elim, append_assoc, arith, length-append, eq-eqb}
use Rattle.std.proofs.lemmas.Bool.{cases_lt}
use Rattle.std.proofs.lemmas.List.{drop-take, drop_at, drop-drop, take_at, take-take, take_all, take-append-le, drop-append-le, take-append-drop, length-take-le, length-drop, length-replicate}
use Rattle.value.specs.Versions.{every}
use Rattle.value.specs.Numbers.{number, bytes_of, is_byte, all_bytes}
use Rattle.value.proofs.TestLaws.{every_append}
use Rattle.value.proofs.NumberLaws.{length_bytes_of, all_bytes_of, number_bytes_of}
use Rattle.table.specs.Device.{Page, page_at, a_page}
use Rattle.table.specs.Sum.{page_sum, is_sound}
use Rattle.table.specs.Sizes.{page_count}
use Rattle.table.proofs.SumLaws.{sum_front, sum_below}
use Rattle.table.proofs.DamageLaws.{bytes_take, bytes_drop}
use Rattle.table.specs.Stream.{payload, sealed, payloads, page_of, Holds, PagesSound, StreamBack, SpanRead, HoldsElsewhere}

pub length_payload : (p : List ℕ) → length (payload p) ≡ 504
unfolding payload
length_payload p = length-take-le 504 (p ++ replicate 504 0) (omega (arith, length-append p (replicate 504 0), length-replicate {A = ℕ} 504 0))

-- of a page that has the payload in front, it is the payload
pub payload_front : (bs rest : List ℕ) → length bs ≡ 504 → payload (bs ++ rest) ≡ bs
unfolding payload
payload_front bs rest e = ap (take 504) (append_assoc bs rest (replicate 504 0)) ∙ take_at bs (rest ++ replicate 504 0) 504 e

pub payload_sealed : (bs : List ℕ) → payload (sealed bs) ≡ payload bs
unfolding sealed
payload_sealed bs = payload_front (payload bs) (bytes_of 8 (page_sum (payload bs))) (length_payload bs)

pub payload_long : (bs : List ℕ) → 504 ≤ length bs → payload bs ≡ take 504 bs
unfolding payload
payload_long bs h = take-append-le 504 bs (replicate 504 0) h

pub payload_short : (bs : List ℕ) → length bs ≤ 504 → take (length bs) (payload bs) ≡ bs
unfolding payload
payload_short bs h = take-take (length bs) 504 (bs ++ replicate 504 0) h ∙ take_at bs (replicate 504 0) (length bs) refl

pub length_payloads : (ps : List Page) (first n : ℕ) → length (payloads ps first n) ≡ 504 * n
unfolding payloads
length_payloads ps first zero = refl
length_payloads ps first (suc n) =
    let e = length-append (payload (page_at ps first)) (payloads ps (suc first) n) in
    omega (arith, e, length_payload (page_at ps first), length_payloads ps (suc first) n)

pub payloads_more : (ps : List Page) (first i n : ℕ) → payloads ps first (i + n) ≡ payloads ps first i ++ payloads ps (first + i) n
unfolding payloads
payloads_more ps first zero n = let e : 0 + n ≡ n = omega arith in let f : first + 0 ≡ first = omega arith in rw (e, f) refl
payloads_more ps first (suc i) n =
    let e : suc i + n ≡ suc (i + n) = omega arith in
    let f : first + suc i ≡ suc first + i = omega arith in
    rw (e, f) (ap (λ l. payload (page_at ps first) ++ l) (payloads_more ps (suc first) i n) ∙ sym (append_assoc (payload (page_at ps first)) (payloads ps (suc first) i) (payloads ps (suc first + i) n)))

-- more pages than are needed do no harm
pub holds_more : (ps : List Page) (first n : ℕ) (bs : List ℕ) → Holds ps first bs → length bs ≤ 504 * n → take (length bs) (payloads ps first n) ≡ bs
holds_more ps first n bs h l =
    let c = page_count (length bs) in
    let k : c + (n - c) ≡ n = omega arith in
    ap (λ m. take (length bs) (payloads ps first m)) (sym k)
    ∙ ap (take (length bs)) (payloads_more ps first c (n - c))
    ∙ take-append-le (length bs) (payloads ps first c) (payloads ps (first + c) (n - c)) (omega (arith, length_payloads ps first c)) ∙ h

-- a span of what is taken is a span of the whole
pub span_take : (at len n : ℕ) (xs : List ℕ) → at + len ≤ n → take len (drop at (take n xs)) ≡ take len (drop at xs)
span_take at len n xs l =
    let k : at + (n - at) ≡ n = omega arith in
    ap (λ m. take len (drop at (take m xs))) (sym k) ∙ ap (take len) (drop-take at (n - at) xs) ∙ take-take len (n - at) (drop at xs) (omega arith)

pub span_front : (at len : ℕ) (xs ys : List ℕ) → at + len ≤ length xs → take len (drop at (xs ++ ys)) ≡ take len (drop at xs)
span_front at len xs ys l =
    ap (take len) (drop-append-le at xs ys (omega arith)) ∙ take-append-le len (drop at xs) ys (omega (arith, length-drop at xs))

pub span_read : SpanRead
span_read ps first bs at len n h l k =
    let i : ℕ = at / 504 in
    let r : ℕ = at % 504 in
    let c : ℕ = page_count (length bs) in
    let e : 504 * i + r ≡ at = omega arith in
    let X = payloads ps first i in
    let Y = payloads ps (first + i) n in
    let Z = payloads ps (first + i + n) c in
    let all : take (length bs) (X ++ (Y ++ Z)) ≡ bs =
    ap (λ m. take (length bs) (X ++ m)) (sym (payloads_more ps (first + i) n c)) ∙ ap (take (length bs)) (sym (payloads_more ps first i (n + c)))
    ∙ holds_more ps first (i + (n + c)) bs h (omega arith) in
    let skip : drop at (X ++ (Y ++ Z)) ≡ drop r (Y ++ Z) =
    ap (λ m. drop m (X ++ (Y ++ Z))) (sym e) ∙ sym (drop-drop r (504 * i) (X ++ (Y ++ Z))) ∙ ap (drop r) (drop_at X (Y ++ Z) (504 * i) (length_payloads ps first i)) in
    sym (span_front r len Y Z (omega (arith, length_payloads ps (first + i) n))) ∙ ap (take len) (sym skip) ∙ sym (span_take at len (length bs) (X ++ (Y ++ Z)) l) ∙ ap (λ m. take len (drop at m)) all

payloads_same : (ps qs : List Page) (first n : ℕ) → ((i : ℕ) → i < n → page_at qs (first + i) ≡ page_at ps (first + i)) → payloads qs first n ≡ payloads ps first n
unfolding payloads
payloads_same ps qs first zero same = refl
payloads_same ps qs first (suc n) same =
    let z : first + 0 ≡ first = omega arith in
    let here : page_at qs first ≡ page_at ps first = rw z at (same 0 (omega arith)) in
    let more = payloads_same ps qs (suc first) n (λ i l. let s : first + suc i ≡ suc first + i = omega arith in rw s at (same (suc i) (omega arith))) in
    rw (here, more) refl

pub holds_elsewhere : HoldsElsewhere
holds_elsewhere ps qs first bs same h = ap (take (length bs)) (payloads_same ps qs first (page_count (length bs)) same) ∙ h

-- a stream longer than a page is its first payload, and the rest
take_past : (n : ℕ) (xs ys : List ℕ) → take (length xs + n) (xs ++ ys) ≡ xs ++ take n ys
take_past n [] ys = let z : 0 + n ≡ n = omega arith in rw z refl
take_past n (x ∷ xs) ys = let z : suc (length xs) + n ≡ suc (length xs + n) = omega arith in rw z (ap (λ l. x ∷ l) (take_past n xs ys))

no_bytes : (bs : List ℕ) → length bs ≤ 0 → [] ≡ bs
no_bytes [] h = refl
no_bytes (b ∷ bs) h = absurd (omega arith)

payloads_back : (ps : List Page) (n first : ℕ) (bs : List ℕ) → length bs ≤ 504 * n → ((i : ℕ) → i < n → payload (page_at ps (first + i)) ≡ payload (drop (504 * i) bs)) →
    take (length bs) (payloads ps first n) ≡ bs
unfolding payloads
payloads_back ps zero first bs l same = take_all (length bs) [] (omega arith) ∙ no_bytes bs (omega arith)
payloads_back ps (suc n) first bs l same =
    let z : first + 0 ≡ first = omega arith in
    let here : payload (page_at ps first) ≡ payload bs = rw z at (same 0 (omega arith)) in
    let rest = payloads_back ps n (suc first) (drop 504 bs) (omega (arith, length-drop 504 bs))
    (λ i k. let s : first + suc i ≡ suc first + i = omega arith in let m : 504 * suc i ≡ 504 + 504 * i = omega arith in
    rw s at (same (suc i) (omega arith)) ∙ ap (λ j. payload (drop j bs)) m ∙ ap payload (sym (drop-drop (504 * i) 504 bs))) in
    rw here (⊎_elim (λ h. short (omega arith)) (λ h. long h rest) (cases_lt (length bs) 504))
  where
    short : length bs ≤ 504 → take (length bs) (payload bs ++ payloads ps (suc first) n) ≡ bs
    short h = take-append-le (length bs) (payload bs) (payloads ps (suc first) n) (omega (arith, length_payload bs)) ∙ payload_short bs h

    long : 504 ≤ length bs → take (length (drop 504 bs)) (payloads ps (suc first) n) ≡ drop 504 bs → take (length bs) (payload bs ++ payloads ps (suc first) n) ≡ bs
    long h rest =
        let k : length bs ≡ length (payload bs) + length (drop 504 bs) = omega (arith, length_payload bs, length-drop 504 bs) in
        ap (λ j. take j (payload bs ++ payloads ps (suc first) n)) k ∙ take_past (length (drop 504 bs)) (payload bs) (payloads ps (suc first) n)
        ∙ (λ i. payload_long bs h i ++ rest i) ∙ take-append-drop 504 bs

pub stream_back : StreamBack
unfolding page_of
stream_back ps first bs same =
    payloads_back ps (page_count (length bs)) first bs (omega arith) (λ i l. ap payload (same i l) ∙ payload_sealed (drop (504 * i) bs))

-- a page that was sealed is a page, and sound
pub zeros_bytes : (n : ℕ) → all_bytes (replicate n 0) ≡ true
unfolding every
zeros_bytes zero = refl
zeros_bytes (suc n) = zeros_bytes n

pub payload_bytes : (bs : List ℕ) → all_bytes bs ≡ true → all_bytes (payload bs) ≡ true
unfolding payload
payload_bytes bs b = bytes_take 504 (bs ++ replicate 504 0) (every_append is_byte bs (replicate 504 0) b (zeros_bytes 504))

pub sealed_page_is : (bs : List ℕ) → all_bytes bs ≡ true → (a_page (sealed bs) ≡ true) × (is_sound (sealed bs) ≡ true)
unfolding sealed
sealed_page_is bs b =
    let P = payload bs in
    let S = bytes_of 8 (page_sum (payload bs)) in
    let lp = length_payload bs in
    let ls = length_bytes_of 8 (page_sum (payload bs)) in
    let len : length (P ++ S) ≡ 512 = length-append P S ∙ rw (lp, ls) refl in
    let stored : number (take 8 (drop 504 (P ++ S))) ≡ page_sum P =
    ap (λ x. number (take 8 x)) (drop_at P S 504 lp) ∙ ap number (take_all 8 S (omega arith)) ∙ number_bytes_of 8 (page_sum P) (sum_below P) in (
      rw (eq-eqb (length (P ++ S)) 512 len) (every_append is_byte P S (payload_bytes bs b) (all_bytes_of 8 (page_sum (payload bs)))),
      eq-eqb (number (take 8 (drop 504 (P ++ S)))) (page_sum (P ++ S)) (stored ∙ sym (sum_front P S lp)),
    )

pub pages_sound : PagesSound
unfolding page_of
pages_sound bs i b = sealed_page_is (drop (504 * i) bs) (bytes_drop (504 * i) bs b)
