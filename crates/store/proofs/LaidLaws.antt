-- A row of bytes laid over the beginning of another comes back from there, as far as it found room.
use Rattle.std.proofs.Common.{◌≡◌, ℕ, ◌<◌, ◌≤◌, List, ◌++◌, length, take, drop, sym, ap, ◌∙◌, ⊎_elim, append-nil, arith, length-take}
use Rattle.std.proofs.lemmas.Bool.{cases_lt}
use Rattle.std.proofs.lemmas.List.{take_all, take_at, drop_all}
use Rattle.memtable.specs.Words.{laid}

pub take_laid : (bs out : List ℕ) (n : ℕ) → n ≡ length bs → take n (laid bs out) ≡ take (length out) bs
unfolding laid
take_laid bs out n e =
    let room = λ (h : length bs ≤ length out).
    ap (λ x. take n (x ++ drop (length bs) out)) (take_all (length out) bs h) ∙ take_at bs (drop (length bs) out) n (sym e) ∙ sym (take_all (length out) bs h) in
    let none = λ (h : length out < length bs).
    ap (λ x. take n (take (length out) bs ++ x)) (drop_all (length bs) out (omega arith)) ∙ ap (take n) (append-nil (take (length out) bs))
    ∙ take_all n (take (length out) bs) (omega (arith, length-take (length out) bs)) in
    ⊎_elim none room (cases_lt (length out) (length bs))
