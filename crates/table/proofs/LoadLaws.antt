-- Page after page the row's front is the payloads of the pages.
use Rattle.std.proofs.Common.{◌≡◌, ℕ, ◌+◌, ◌*◌, ◌<◌, ◌≤◌, List, ◌++◌, length, take, drop, sym, ap, ◌∙◌, append_assoc, append-nil, arith, length-append, lt-ltb, le-leb}
use Rattle.std.proofs.lemmas.List.{take_at, length-take-le}
use Rattle.table.specs.Device.{Page, page_at}
use Rattle.table.specs.Stream.{payload, payloads}
use Rattle.table.specs.Load.{placed_at, SpansShort, LoadGoesOn}
use Rattle.table.proofs.StreamLaws.{length_payload, payloads_more}

pub spans_short : SpansShort
spans_short first at len = ((λ h. omega arith), (λ h. omega arith))

pub one_payload : (ps : List Page) (first : ℕ) → payloads ps first 1 ≡ payload (page_at ps first)
unfolding payloads
one_payload ps first = append-nil (payload (page_at ps first))

pub load_goes_on : LoadGoesOn
unfolding placed_at
load_goes_on l ps row g r s e =
    let n : ℕ = 504 * l.got in
    let P = payload (page_at ps (l.span.page + l.got)) in
    let lp = length_payload (page_at ps (l.span.page + l.got)) in
    let k : 504 * (l.got + 1) ≡ length (take n row ++ P) = omega (arith, length-append (take n row) P, length-take-le n row (omega arith), lp) in
    rw (lt-ltb l.got 4 g, le-leb 2016 (length row) r) (
    ap (take (504 * (l.got + 1))) (sym (append_assoc (take n row) P (drop (length P) (drop n row))))
    ∙ take_at (take n row ++ P) (drop (length P) (drop n row)) (504 * (l.got + 1)) (sym k)
    ∙ (λ i. e i ++ sym (one_payload ps (l.span.page + l.got)) i) ∙ sym (payloads_more ps l.span.page l.got 1))

-- a payload in its place
pub placed_there : {A : Type 0} (got at k : ℕ) (xs row : List A) → got < 4 → 2016 ≤ length row → at ≡ 504 * got → k ≡ length xs → take at row ++ (xs ++ drop k (drop at row)) ≡ placed_at got xs row
unfolding placed_at
placed_there got at k xs row g h a b = rw (lt-ltb got 4 g, le-leb 2016 (length row) h) (λ i. take (a i) row ++ (xs ++ drop (b i) (drop (a i) row)))
