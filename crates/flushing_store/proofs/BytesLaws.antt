-- A version that is staged is there; and bytes that are put over words are there, those before them too.
use Rattle.std.proofs.Common.{◌≡◌, ℕ, zero, suc, ◌+◌, ◌%◌, ◌≤◌, Bool, true, false, leb, List, [], ◌∷◌, ◌++◌, length, get_or, take, drop, sym, refl, ap, ◌∙◌, arith, length-append, length-drop, take-append-drop, length-take, le-leb, leb-true, lt-ltb}
use Rattle.std.proofs.lemmas.List.{take_at, drop_at, take_all, drop-drop, length-take-le}
use Rattle.value.specs.Versions.{pick, every, Version}
use Rattle.value.specs.Numbers.{put_at, all_bytes}
use Rattle.memtable.specs.Words.{put_row}
use Rattle.memtable.specs.Arena.{version_at, encoded, has_room, appended}
use Rattle.memtable.specs.Holds.{fits, Stands}
use Rattle.memtable.proofs.ReadLaws.{fits_parts, version_read}
use Rattle.table.specs.Row.{octets}
use Rattle.table.proofs.RowLaws.{length_octets}
use Rattle.flushing_store.specs.Octets.{put_octets}

-- THE STAGE
pub stage_reads : (ws : List ℕ) (v : Version) → length ws ≡ 162 → fits v ≡ true → version_at (appended ws 0 v) 0 ≡ v
unfolding appended put_row Stands
stage_reads ws v l f =
    let p = fits_parts v f in
    let n : ℕ = length (encoded v) in
    let e : has_room (length ws) 0 (length v.key) (length v.value) ≡ true =
    rw (le-leb 1 (length v.key) p.one, le-leb (length v.key) 255 p.key_long, le-leb (length v.value) 1024 p.value_long) (le-leb _ (length ws) (omega (arith, p.key_long, p.value_long))) in
    let x : List ℕ = encoded v ++ drop (0 + n) ws in
    rw e (version_read (encoded v ++ drop (0 + n) ws) n 0 v f
    (ap (take n) (take_at (encoded v) (drop (0 + n) ws) n refl) ∙ take_all n (encoded v) (omega arith)))

-- BYTES OVER WORDS
pub octets_of_bytes : (n : ℕ) (ws : List ℕ) → all_bytes (octets n ws) ≡ true
unfolding octets every
octets_of_bytes zero ws = refl
octets_of_bytes (suc n) ws = rw (lt-ltb (get_or ws 0 0 % 256) 256 (omega arith)) (octets_of_bytes n (drop 1 ws))

pub octets_again : (n : ℕ) (ws : List ℕ) → octets n (octets n ws) ≡ octets n ws
unfolding octets
octets_again zero ws = refl
octets_again (suc n) ws = λ i. (let e : get_or ws 0 0 % 256 % 256 ≡ get_or ws 0 0 % 256 = omega arith in e i) ∷ octets_again n (drop 1 ws) i

pub take_octets : (k n : ℕ) (ws : List ℕ) → k ≤ n → take k (octets n ws) ≡ octets k ws
unfolding octets
take_octets zero n ws h = refl
take_octets (suc k) zero ws h = absurd (omega arith)
take_octets (suc k) (suc n) ws h = ap (λ x. get_or ws 0 0 % 256 ∷ x) (take_octets k n (drop 1 ws) (omega arith))

pub drop_octets : (k n : ℕ) (ws : List ℕ) → drop k (octets (k + n) ws) ≡ octets n (drop k ws)
unfolding octets
drop_octets zero n ws = let e : 0 + n ≡ n = omega arith in ap (λ i. octets i ws) e
drop_octets (suc k) n ws =
    let e : suc k + n ≡ suc (k + n) = omega arith in
    let f : 1 + k ≡ suc k = omega arith in
    ap (λ i. drop (suc k) (octets i ws)) e ∙ drop_octets k n (drop 1 ws) ∙ ap (octets n) (drop-drop k 1 ws ∙ ap (λ i. drop i ws) f)

octets_append : (k n : ℕ) (ws : List ℕ) → octets (k + n) ws ≡ octets k ws ++ octets n (drop k ws)
unfolding octets
octets_append zero n ws = let e : 0 + n ≡ n = omega arith in ap (λ i. octets i ws) e
octets_append (suc k) n ws =
    let e : suc k + n ≡ suc (k + n) = omega arith in
    let f : 1 + k ≡ suc k = omega arith in
    ap (λ i. octets i ws) e ∙ ap (λ x. get_or ws 0 0 % 256 ∷ x) (octets_append k n (drop 1 ws) ∙ ap (λ y. octets k (drop 1 ws) ++ octets n y) (drop-drop k 1 ws ∙ ap (λ i. drop i ws) f))

octets_front : (n : ℕ) (xs ys : List ℕ) → length xs ≡ n → octets n (xs ++ ys) ≡ octets n xs
unfolding octets
octets_front zero xs ys h = refl
octets_front (suc n) [] ys h = absurd (omega arith)
octets_front (suc n) (x ∷ xs) ys h = ap (λ z. x % 256 ∷ z) (octets_front n xs ys (omega arith))

pub put_octets_long : (at : ℕ) (bs ws : List ℕ) → length (put_octets at bs ws) ≡ length ws
unfolding put_octets
put_octets_long at bs ws = go (leb (at + length bs) (length ws)) refl
  where
    go : (b : Bool) → leb (at + length bs) (length ws) ≡ b → length (pick b (put_at at (octets (length bs) bs) ws) ws) ≡ length ws
    go true e = simp (length-append, length-take, length-drop, length_octets) (omega (arith, leb-true (at + length bs) (length ws) e))
    go false e = refl

-- bytes that are put behind n others
pub octets_put : (at : ℕ) (bs ws : List ℕ) → at + length bs ≤ length ws → octets (at + length bs) (put_octets at bs ws) ≡ octets at ws ++ octets (length bs) bs
unfolding put_octets
octets_put at bs ws h =
    let xs = octets (length bs) bs in
    let n : ℕ = length bs in
    let l : length (take at ws) ≡ at = length-take-le at ws (omega arith) in
    let lx : length xs ≡ n = length_octets n bs in
    rw (le-leb (at + length bs) (length ws) h)
    (octets_append at n (take at ws ++ (xs ++ drop (length xs) (drop at ws)))
    ∙ (λ i. (octets_front at (take at ws) (xs ++ drop (length xs) (drop at ws)) l ∙ octets_taken at ws h₁) i ++ octets n (drop_at (take at ws) (xs ++ drop (length xs) (drop at ws)) at l i))
    ∙ ap (λ y. octets at ws ++ y) (octets_front n xs (drop (length xs) (drop at ws)) lx ∙ octets_again n bs))
  where
    h₁ : at ≤ length ws
    h₁ = omega arith

    octets_taken : (k : ℕ) (us : List ℕ) → k ≤ length us → octets k (take k us) ≡ octets k us
    octets_taken k us g = sym (octets_front k (take k us) (drop k us) (length-take-le k us g)) ∙ ap (octets k) (take-append-drop k us)
