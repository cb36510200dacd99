-- Bytes are their own octets; and bytes put over the words at a place.
use Rattle.std.proofs.Common.{◌≡◌, ℕ, zero, suc, ◌+◌, ◌-◌, ◌%◌, ◌<◌, ◌≤◌, List, [], ◌∷◌, ◌++◌, length, get_or, take, drop, sym, refl, ap, ◌∙◌, arith, w8, Fits, eq-eqb, le-leb}
use borrow.Author.Tests.{lt-leb}
use Rattle.std.proofs.lemmas.List.{take_all, drop-drop, drop-take}
use Rattle.value.specs.Padded.{padded}
use Rattle.value.proofs.PaddedLaws.{padded_is_take}
use Rattle.table.specs.Row.{octets}
use Rattle.table.specs.Stream.{sealed, filled}
use Rattle.table.proofs.RowLaws.{length_octets, octet_at}
use Rattle.flushing_store.specs.Octets.{put_octets}

pub octet_of : (bs : List ℕ) (n i x : ℕ) → ((k : ℕ) → Fits w8 (get_or bs k 0)) → i < n → x ≡ get_or bs i 0 → x ≡ get_or (octets n bs) i 0
octet_of bs n i x f h e = let k = f i in let z : get_or bs i 0 % 256 ≡ get_or bs i 0 = omega arith in e ∙ sym (octet_at n bs i h ∙ z)

-- bytes in a row of n
pub padded_octets : (n : ℕ) (bs : List ℕ) → ((k : ℕ) → get_or bs k 0 < 256) → padded n bs ≡ octets n bs
unfolding padded octets
padded_octets zero bs f = refl
padded_octets (suc n) [] f = ap (λ xs. 0 ∷ xs) (padded_octets n [] f)
padded_octets (suc n) (b ∷ bs) f =
    let z : b ≡ b % 256 = let k = f 0 in omega arith in
    (λ i. z i ∷ padded_octets n bs (λ k. f (suc k)) i)

pub octets_same : (n : ℕ) (bs : List ℕ) → ((k : ℕ) → get_or bs k 0 < 256) → n ≡ length bs → octets n bs ≡ bs
octets_same n bs f e = sym (padded_octets n bs f) ∙ padded_is_take n bs (omega arith) ∙ take_all n bs (omega arith)

pub put_far : (at : ℕ) (bs ws : List ℕ) → length ws < at + length bs → ws ≡ put_octets at bs ws
unfolding put_octets
put_far at bs ws h = rw (lt-leb (at + length bs) (length ws) h) refl

pub put_near : (at k : ℕ) (bs ws xs : List ℕ) → at + length bs ≤ length ws → k ≡ length bs → xs ≡ octets (length bs) bs → take at ws ++ (xs ++ drop k (drop at ws)) ≡ put_octets at bs ws
unfolding put_octets
put_near at k bs ws xs h e f =
    let l : k ≡ length (octets (length bs) bs) = e ∙ sym (length_octets (length bs) bs) in
    rw (le-leb (at + length bs) (length ws) h) (λ i. take at ws ++ (f i ++ drop (l i) (drop at ws)))

-- the words of a part from one on
pub part_from : (a b n i j : ℕ) (m : List ℕ) → b ≡ a + n → i ≡ j → j ≤ n → take (b - (a + i)) (drop (a + i) m) ≡ drop j (take n (drop a m))
part_from a b n i j m e f h =
    let x : b - (a + i) ≡ n - j = omega arith in
    let y : j + (n - j) ≡ n = omega arith in
    (λ t. take (x t) (drop (a + f t) m)) ∙ ap (take (n - j)) (sym (drop-drop j a m)) ∙ sym (drop-take j (n - j) (drop a m)) ∙ ap (λ z. drop j (take z (drop a m))) y

pub page_filled : (bs page : List ℕ) → length page ≡ 512 → filled bs page ≡ sealed bs
unfolding filled
page_filled bs page h = rw (eq-eqb (length page) 512 h) refl
