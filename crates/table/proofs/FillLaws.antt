-- A page is filled byte by byte, and sealed.
use Rattle.std.proofs.Common.{◌≡◌, ℕ, zero, suc, ◌-◌, ◌<◌, ◌≤◌, List, ◌++◌, length, get_or, take, drop, replicate, sym, refl, ap, ◌∙◌, ⊎_elim, append-nil, arith, length-append, eq-eqb, ne_eqb, le-leb}
use Rattle.std.proofs.lemmas.Bool.{cases_lt}
use Rattle.std.proofs.lemmas.List.{take_at, drop_at, drop_all, length-drop, get_or-take, get_or_past, get_or_append_left, get_or-append_right}
use Rattle.value.specs.Numbers.{bytes_of}
use Rattle.value.specs.Padded.{padded}
use Rattle.value.proofs.NumberLaws.{length_bytes_of}
use Rattle.value.proofs.PaddedLaws.{padded_front}
use Rattle.table.specs.Sum.{page_sum, sealed_page}
use Rattle.table.specs.Stream.{payload, sealed, filled}
use Rattle.table.proofs.SumLaws.{sum_front}
use Rattle.table.proofs.StreamLaws.{length_payload}

getD_zeros : (n i : ℕ) → ◌≡◌ {A = ℕ} (get_or (replicate n 0) i 0) 0
getD_zeros zero i = refl
getD_zeros (suc n) zero = refl
getD_zeros (suc n) (suc i) = getD_zeros n i

-- a byte of the payload is the byte, or 0
pub payload_byte : (bs : List ℕ) (i : ℕ) → i < 504 → get_or (payload bs) i 0 ≡ get_or bs i 0
unfolding payload
payload_byte bs i h =
    get_or-take 504 (bs ++ replicate 504 0) i 0 h
    ∙ ⊎_elim (λ l. get_or_append_left bs (replicate 504 0) 0 i l)
    (λ l. get_or-append_right bs (replicate 504 0) (length bs) i 0 refl l ∙ getD_zeros 504 (i - length bs) ∙ sym (get_or_past bs i 0 l)) (cases_lt i (length bs))

pub filled_other : (bs page : List ℕ) → (length page ≡ 512 → ⊥) → page ≡ filled bs page
unfolding filled
filled_other bs page n = rw (ne_eqb (length page) 512 n) refl

pub payload_padded : (bs : List ℕ) → padded 504 bs ≡ payload bs
unfolding payload
payload_padded bs = padded_front 504 504 bs (omega arith)

pub filled_page : (bs page row sealed_now : List ℕ) → length page ≡ 512 → row ≡ payload bs → sealed_now ≡ sealed_page (row ++ drop 504 page) → sealed_now ≡ filled bs page
unfolding filled sealed sealed_page
filled_page bs page row sealed_now l e s =
    let P = payload bs in
    let Z = drop 504 page in
    let now = row ++ Z in
    let lp = length_payload bs in
    let n : now ≡ P ++ Z = ap (λ x. x ++ Z) e in
    let len : 512 ≤ length now = omega (arith, ap length n, length-append P Z, length-drop 504 page) in
    let sum : page_sum now ≡ page_sum P = ap page_sum n ∙ sum_front P Z lp in
    let front : take 504 now ≡ P = ap (take 504) n ∙ take_at P Z 504 lp in
    let back : drop 504 now ≡ Z = ap (drop 504) n ∙ drop_at P Z 504 lp in
    s ∙ rw (le-leb 512 (length now) len, eq-eqb (length page) 512 l) (
    (λ j. front j ++ (bytes_of 8 (sum j) ++ drop (length (bytes_of 8 (sum j))) (back j)))
    ∙ ap (λ k. P ++ (bytes_of 8 (page_sum P) ++ drop k Z)) (length_bytes_of 8 (page_sum P))
    ∙ ap (λ x. P ++ (bytes_of 8 (page_sum P) ++ x)) (drop_all 8 Z (omega (arith, length-drop 504 page)))
    ∙ ap (λ x. P ++ x) (append-nil (bytes_of 8 (page_sum P))))
