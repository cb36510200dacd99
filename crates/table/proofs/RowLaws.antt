-- The bytes that words hold, one by one.
use Rattle.std.proofs.Common.{◌≡◌, ℕ, zero, suc, ◌+◌, ◌*◌, ◌%◌, ◌<◌, true, List, length, get_or, take, drop, sym, refl, ap, ◌∙◌, arith}
use Rattle.std.proofs.lemmas.List.{get_or_default, get_or-drop, get_or-take, same_lists, take_all}
use Rattle.value.specs.Numbers.{number, all_bytes}
use Rattle.value.proofs.NumberLaws.{number_4, byte_there}
use Rattle.table.specs.Row.{octets}

pub length_octets : (n : ℕ) (ws : List ℕ) → length (octets n ws) ≡ n
unfolding octets
length_octets zero ws = refl
length_octets (suc n) ws = ap suc (length_octets n (drop 1 ws))

pub octet_at : (n : ℕ) (ws : List ℕ) (i : ℕ) → i < n → get_or (octets n ws) i 0 ≡ get_or ws i 0 % 256
unfolding octets
octet_at zero ws i h = omega arith
octet_at (suc n) ws zero h = refl
octet_at (suc n) ws (suc i) h =
    let e : 1 + i ≡ suc i = omega arith in
    octet_at n (drop 1 ws) i (omega arith) ∙ ap (λ x. x % 256) (get_or-drop 1 ws i 0) ∙ ap (λ k. get_or ws k 0 % 256) e

-- the number in four bytes
pub number_octets : (at : ℕ) (ws : List ℕ) →
    get_or ws at 0 % 256 + get_or ws (at + 1) 0 % 256 * 256 + get_or ws (at + 2) 0 % 256 * 65536 + get_or ws (at + 3) 0 % 256 * 16777216 ≡ number (octets 4 (drop at ws))
number_octets at ws =
    let bs = octets 4 (drop at ws) in
    let z : at + 0 ≡ at = omega arith in
    let here : (i : ℕ) → i < 4 → get_or ws (at + i) 0 % 256 ≡ get_or bs i 0 = λ i h. sym (octet_at 4 (drop at ws) i h ∙ ap (λ y. y % 256) (get_or-drop at ws i 0)) in
    let a = rw z at (here 0 (omega arith)) in
    omega (arith, a, here 1 (omega arith), here 2 (omega arith), here 3 (omega arith), number_4 bs, ap number (take_all 4 bs (omega (arith, length_octets 4 (drop at ws)))))

pub number_of_octets : (at : ℕ) (ws from bs : List ℕ) → from ≡ drop at ws → bs ≡ octets 4 from → number (take 4 bs) ≡ number (octets 4 (drop at ws))
number_of_octets at ws from bs e f =
    ap (λ l. number (take 4 l)) f ∙ ap number (take_all 4 (octets 4 from) (omega (arith, length_octets 4 from))) ∙ ap (λ l. number (octets 4 l)) e

pub octets_small : (ws : List ℕ) → number (octets 4 ws) < 4294967296
octets_small ws = omega (arith, number_octets 0 ws)

-- words that are bytes are those that they hold
pub octets_bytes : (n : ℕ) (ws bs : List ℕ) → take n ws ≡ bs → length bs ≡ n → all_bytes bs ≡ true → octets n ws ≡ bs
octets_bytes n ws bs e l b =
    same_lists (octets n ws) bs (length_octets n ws ∙ sym l)
    (λ k d h.
    let i : k < n = omega (arith, length_octets n ws) in
    let is : get_or ws k 0 ≡ get_or bs k 0 = sym (get_or-take n ws k 0 i) ∙ ap (λ y. get_or y k 0) e in
    get_or_default (octets n ws) k d 0 h ∙ octet_at n ws k i ∙ omega (arith, is, byte_there bs k b) ∙ get_or_default bs k 0 d (omega arith))
