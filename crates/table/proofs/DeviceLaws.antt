-- Pages that keep what is written: what writes, settling and stops leave of each page.
use Rattle.std.proofs.Common.{◌≡◌, ℕ, zero, suc, ◌<◌, ◌≤◌, Bool, true, false, eqb, List, [], ◌∷◌, ◌++◌, length, take, drop, refl, ap, ◌∙◌, arith, ne_eqb}
use Rattle.std.proofs.lemmas.List.{length-take-le, take_at, drop_at}
use borrow.Author.Tests.{eqb-false}
use Rattle.value.specs.Versions.{pick, every}
use Rattle.value.specs.Numbers.{all_bytes}
use Rattle.value.proofs.TestLaws.{clash, and_left_of, and_right_of}
use Rattle.table.specs.Device.{Page, Write, set_page, page_at, all_written, half, left, elsewhere, zeros, blank, a_page}

-- one page written
pub length_set_page : (ps : List Page) (k : ℕ) (p : Page) → length (set_page ps k p) ≡ length ps
unfolding set_page
length_set_page [] k p = refl
length_set_page (q ∷ qs) zero p = refl
length_set_page (q ∷ qs) (suc k) p = ap suc (length_set_page qs k p)

pub page_set_here : (ps : List Page) (k : ℕ) (p : Page) → k < length ps → page_at (set_page ps k p) k ≡ p
unfolding set_page page_at
page_set_here [] k p h = absurd (omega arith)
page_set_here (q ∷ qs) zero p h = refl
page_set_here (q ∷ qs) (suc k) p h = page_set_here qs k p (omega arith)

pub page_set_else : (ps : List Page) (k : ℕ) (p : Page) (j : ℕ) → (k ≡ j → ⊥) → page_at (set_page ps k p) j ≡ page_at ps j
unfolding set_page page_at
page_set_else [] k p j h = refl
page_set_else (q ∷ qs) zero p zero h = absurd (h refl)
page_set_else (q ∷ qs) zero p (suc j) h = refl
page_set_else (q ∷ qs) (suc k) p zero h = refl
page_set_else (q ∷ qs) (suc k) p (suc j) h = page_set_else qs k p j (λ e. h (ap suc e))

-- pages are made of bytes, and so is what stands past the last
pub pages_of_bytes : (ps : List Page) → every a_page ps ≡ true → (k : ℕ) → all_bytes (page_at ps k) ≡ true
unfolding page_at every
pages_of_bytes [] h k = refl
pages_of_bytes (q ∷ qs) h zero = and_right_of (eqb (length q) 512) (all_bytes q) (and_left_of (a_page q) (every a_page qs) h)
pages_of_bytes (q ∷ qs) h (suc k) = pages_of_bytes qs (and_right_of (a_page q) (every a_page qs) h) k

-- one write at a stop: a, all of it; b, its first half
abbrev pub touched : List Page → ℕ → Page → Bool → Bool → List Page
touched ps k p a b = pick a (set_page ps k p) (pick b (set_page ps k (half p (page_at ps k))) ps)

length_touched : (ps : List Page) (k : ℕ) (p : Page) (a b : Bool) → length (touched ps k p a b) ≡ length ps
length_touched ps k p true b = length_set_page ps k p
length_touched ps k p false true = length_set_page ps k (half p (page_at ps k))
length_touched ps k p false false = refl

touched_else : (ps : List Page) (k : ℕ) (p : Page) (a b : Bool) (j : ℕ) → (k ≡ j → ⊥) → page_at (touched ps k p a b) j ≡ page_at ps j
touched_else ps k p true b j h = page_set_else ps k p j h
touched_else ps k p false true j h = page_set_else ps k (half p (page_at ps k)) j h
touched_else ps k p false false j h = refl

-- there are as many pages as before
pub length_written : (ps : List Page) (qs : List Write) → length (all_written ps qs) ≡ length ps
unfolding all_written
length_written ps [] = refl
length_written ps (w ∷ ws) = length_written (set_page ps w.at w.page) ws ∙ length_set_page ps w.at w.page

pub length_left : (ps : List Page) (qs : List Write) (cs : List ℕ) → length (left ps qs cs) ≡ length ps
unfolding left
length_left ps [] cs = refl
length_left ps (w ∷ ws) [] = refl
length_left ps (w ∷ ws) (c ∷ cs) =
    length_left (touched ps w.at w.page (eqb c 1) (eqb c 2)) ws cs ∙ length_touched ps w.at w.page (eqb c 1) (eqb c 2)

-- writes elsewhere: the first, and the others
elsewhere_parts : (k : ℕ) (w : Write) (ws : List Write) → elsewhere k (w ∷ ws) ≡ true → (w.at ≡ k → ⊥) × (elsewhere k ws ≡ true)
unfolding elsewhere
elsewhere_parts k w ws h = go (eqb w.at k) refl h
  where
    go : (b : Bool) → eqb w.at k ≡ b → pick b false (elsewhere k ws) ≡ true → (w.at ≡ k → ⊥) × (elsewhere k ws ≡ true)
    go true e x = clash false x refl
    go false e x = (eqb-false _ _ e, x)

pub elsewhere_more : (k : ℕ) (w : Write) (ws : List Write) → (w.at ≡ k → ⊥) → elsewhere k ws ≡ true → elsewhere k (w ∷ ws) ≡ true
unfolding elsewhere
elsewhere_more k w ws a b = rw (ne_eqb w.at k a) b

pub elsewhere_append : (k : ℕ) (qs rs : List Write) → elsewhere k qs ≡ true → elsewhere k rs ≡ true → elsewhere k (qs ++ rs) ≡ true
elsewhere_append k [] rs h g = g
elsewhere_append k (w ∷ ws) rs h g =
    let (a, b) = elsewhere_parts k w ws h in
    elsewhere_more k w (ws ++ rs) a (elsewhere_append k ws rs b g)

-- a page to which no write goes stays
pub written_else : (ps : List Page) (qs : List Write) (k : ℕ) → elsewhere k qs ≡ true → page_at (all_written ps qs) k ≡ page_at ps k
unfolding all_written
written_else ps [] k h = refl
written_else ps (w ∷ ws) k h =
    let (a, b) = elsewhere_parts k w ws h in
    written_else (set_page ps w.at w.page) ws k b ∙ page_set_else ps w.at w.page k a

pub left_else : (ps : List Page) (qs : List Write) (cs : List ℕ) (k : ℕ) → elsewhere k qs ≡ true → page_at (left ps qs cs) k ≡ page_at ps k
unfolding left
left_else ps [] cs k h = refl
left_else ps (w ∷ ws) [] k h = refl
left_else ps (w ∷ ws) (c ∷ cs) k h =
    let (a, b) = elsewhere_parts k w ws h in
    left_else (touched ps w.at w.page (eqb c 1) (eqb c 2)) ws cs k b ∙ touched_else ps w.at w.page (eqb c 1) (eqb c 2) k a

pub written_append : (ps : List Page) (qs rs : List Write) → all_written ps (qs ++ rs) ≡ all_written (all_written ps qs) rs
unfolding all_written
written_append ps [] rs = refl
written_append ps (w ∷ ws) rs = written_append (set_page ps w.at w.page) ws rs

-- one write waits: a stop leaves nothing of it, all, or its first half
pub left_one :
    (ps : List Page) (k : ℕ) (p : Page) (cs : List ℕ) (P : List Page → Type 0) → P ps → P (set_page ps k p) → P (set_page ps k (half p (page_at ps k))) →
    P (left ps (record { at = k; page = p } ∷ []) cs)
unfolding left
left_one ps k p [] P none all some = none
left_one ps k p (c ∷ cs) P none all some = go (eqb c 1) (eqb c 2)
  where
    go : (a b : Bool) → P (touched ps k p a b)
    go true b = all
    go false true = some
    go false false = none

-- the halves of a torn page
pub half_front : (new old : Page) → 256 ≤ length new → take 256 (half new old) ≡ take 256 new
unfolding half
half_front new old h = take_at (take 256 new) (drop 256 old) 256 (length-take-le 256 new h)

pub half_back : (new old : Page) → 256 ≤ length new → drop 256 (half new old) ≡ drop 256 old
unfolding half
half_back new old h = drop_at (take 256 new) (drop 256 old) 256 (length-take-le 256 new h)

-- blank pages
pub length_blank : (n : ℕ) → length (blank n) ≡ n
unfolding blank
length_blank zero = refl
length_blank (suc n) = ap suc (length_blank n)

pub page_blank : (n k : ℕ) → k < n → page_at (blank n) k ≡ zeros 512
unfolding blank page_at
page_blank zero k h = absurd (omega arith)
page_blank (suc n) zero h = refl
page_blank (suc n) (suc k) h = page_blank n k (omega arith)
