-- A ring of four payloads: the bytes that it holds one by one, and what one payload more leaves of it.
use Rattle.std.proofs.Common.{◌≡◌, ℕ, zero, suc, ◌+◌, ◌-◌, ◌*◌, ◌/◌, ◌%◌, ◌<◌, ◌≤◌, true, List, ◌∷◌, ◌++◌, length, get_or, take, drop, sym, refl, ap, ◌∙◌, ⊎_elim, append_assoc, arith, length-append, lt-ltb, le-leb}
use Rattle.std.proofs.lemmas.List.{take_at, drop_at, drop-drop, get_or_default, get_or-drop, get_or-take, length-take-le, length-drop, same_lists}
use Rattle.std.proofs.lemmas.Bool.{cases_lt}
use Rattle.value.specs.Versions.{every}
use Rattle.value.specs.Numbers.{part, all_bytes}
use Rattle.value.proofs.NumberLaws.{byte_there}
use Rattle.table.specs.Device.{Page, page_at}
use Rattle.table.specs.Sizes.{page_count}
use Rattle.table.specs.Stream.{payload, payloads, Holds}
use Rattle.table.specs.Load.{placed_at, placed}
use Rattle.table.specs.Cursor.{ringed, OfBytes}
use Rattle.table.proofs.StreamLaws.{length_payload, span_front, span_take, span_read}
use Rattle.table.proofs.FillLaws.{payload_byte}
use Rattle.table.proofs.LoadLaws.{one_payload}
use Rattle.table.proofs.ReadingLaws.{getD_span}

pub length_ringed : (b n : ℕ) (ring : List ℕ) → length (ringed b n ring) ≡ n
unfolding ringed
length_ringed b zero ring = refl
length_ringed b (suc n) ring = ap suc (length_ringed (suc b) n ring)

pub ringed_at : (b n : ℕ) (ring : List ℕ) (i : ℕ) → i < n → get_or (ringed b n ring) i 0 ≡ get_or ring ((b + i) % 2016) 0 % 256
unfolding ringed
ringed_at b zero ring i h = omega arith
ringed_at b (suc n) ring zero h = let e : b + 0 ≡ b = omega arith in ap (λ k. get_or ring (k % 2016) 0 % 256) (sym e)
ringed_at b (suc n) ring (suc i) h =
    let e : suc b + i ≡ b + suc i = omega arith in
    ringed_at (suc b) n ring i (omega arith) ∙ ap (λ k. get_or ring (k % 2016) 0 % 256) e

-- once round, it is the same byte
pub ringed_round : (a b n : ℕ) (ring : List ℕ) → a % 2016 ≡ b % 2016 → ringed a n ring ≡ ringed b n ring
unfolding ringed
ringed_round a b zero ring e = refl
ringed_round a b (suc n) ring e =
    let next : suc a % 2016 ≡ suc b % 2016 = omega arith in
    let more = ringed_round (suc a) (suc b) n ring next in
    λ i. get_or ring (e i) 0 % 256 ∷ more i

-- what is read of words are bytes, whatever stands in them
pub ringed_bytes : (b n : ℕ) (ring : List ℕ) → all_bytes (ringed b n ring) ≡ true
unfolding ringed every
ringed_bytes b zero ring = refl
ringed_bytes b (suc n) ring = rw (lt-ltb (get_or ring (b % 2016) 0 % 256) 256 (omega arith)) (ringed_bytes (suc b) n ring)

-- one payload more: it is in its place, and the others are in theirs
module _ (s : ℕ) (p ring : List ℕ) (few : s < 4) (long : length ring ≡ 2016) where
  placed_is : placed s p ring ≡ take (504 * s) ring ++ (payload p ++ drop (504 * s + 504) ring)
  unfolding placed_at
  placed_is =
      rw (lt-ltb s 4 few, le-leb 2016 (length ring) (omega arith), length_payload p, drop-drop 504 (504 * s) ring) refl

  length_front : length (take (504 * s) ring) ≡ 504 * s
  length_front = length-take-le (504 * s) ring (omega arith)

  length_both : length (take (504 * s) ring ++ payload p) ≡ 504 * s + 504
  length_both = omega (arith, length-append (take (504 * s) ring) (payload p), length_front, length_payload p)

  pub length_placed : length (placed s p ring) ≡ 2016
  length_placed =
      let front = take (504 * s) ring in
      let back = drop (504 * s + 504) ring in
      ap length placed_is ∙ omega (arith, length-append front (payload p ++ back), length-append (payload p) back, length_front, length_payload p, length-drop (504 * s + 504) ring)

  pub placed_here : part (504 * s) 504 (placed s p ring) ≡ payload p
  placed_here =
      let front = take (504 * s) ring in
      let back = drop (504 * s + 504) ring in
      ap (part (504 * s) 504) placed_is ∙ ap (take 504) (drop_at front (payload p ++ back) (504 * s) length_front) ∙ take_at (payload p) back 504 (length_payload p)

  placed_before : (t : ℕ) → t < s → part (504 * t) 504 (placed s p ring) ≡ part (504 * t) 504 ring
  placed_before t h =
      ap (part (504 * t) 504) placed_is ∙ span_front (504 * t) 504 (take (504 * s) ring) (payload p ++ drop (504 * s + 504) ring) (omega (arith, length_front))
      ∙ span_take (504 * t) 504 (504 * s) ring (omega arith)

  placed_behind : (t : ℕ) → s < t → part (504 * t) 504 (placed s p ring) ≡ part (504 * t) 504 ring
  placed_behind t h =
      let front = take (504 * s) ring in
      let back = drop (504 * s + 504) ring in
      let k : 504 * s + 504 + (504 * t - (504 * s + 504)) ≡ 504 * t = omega arith in
      let cut : (xs : List ℕ) → drop (504 * t) xs ≡ drop (504 * t - (504 * s + 504)) (drop (504 * s + 504) xs) =
      λ xs. ap (λ j. drop j xs) (sym k) ∙ sym (drop-drop (504 * t - (504 * s + 504)) (504 * s + 504) xs) in
      let same : drop (504 * s + 504) (placed s p ring) ≡ back =
      ap (drop (504 * s + 504)) (placed_is ∙ sym (append_assoc front (payload p) back)) ∙ drop_at (front ++ payload p) back (504 * s + 504) length_both in
      ap (take 504) (cut (placed s p ring) ∙ ap (drop (504 * t - (504 * s + 504))) same ∙ sym (cut ring))

  pub placed_else : (t : ℕ) → (t ≡ s → ⊥) → part (504 * t) 504 (placed s p ring) ≡ part (504 * t) 504 ring
  placed_else t h = ⊎_elim (placed_before t) (λ g. placed_behind t (omega arith)) (cases_lt t s)

-- WHAT IS READ: a byte of the stream on its page, and in the ring
stream_byte : (ps : List Page) (first : ℕ) (bs : List ℕ) (o : ℕ) → Holds ps first bs → o < length bs → get_or (payload (page_at ps (first + o / 504))) (o % 504) 0 ≡ get_or bs o 0
stream_byte ps first bs o h l =
    ap (λ y. get_or y (o % 504) 0) (sym (one_payload ps (first + o / 504)))
    ∙ getD_span (payloads ps (first + o / 504) 1) (o % 504)
    ∙ ap (λ y. get_or y 0 0) (span_read ps first bs o 1 1 h (omega arith) (omega arith))
    ∙ sym (getD_span bs o)

ring_byte : (ps : List Page) (ring : List ℕ) (k q r : ℕ) → OfBytes ps → r < 504 → part (504 * (q % 4)) 504 ring ≡ payload (page_at ps k) → get_or ring (504 * (q % 4) + r) 0 % 256 ≡ get_or (payload (page_at ps k)) r 0
ring_byte ps ring k q r bytes h e =
    let at : ℕ = 504 * (q % 4) in
    let there : get_or ring (at + r) 0 ≡ get_or (payload (page_at ps k)) r 0 = sym (get_or-take 504 (drop at ring) r 0 h ∙ get_or-drop at ring r 0) ∙ ap (λ y. get_or y r 0) e in
    omega (arith, there, payload_byte (page_at ps k) r h, byte_there (page_at ps k) r (bytes k))

-- bytes of a stream whose pages are in the ring
pub ring_reads :
    (ps : List Page) (first : ℕ) (bs ring : List ℕ) (b n : ℕ) → OfBytes ps → Holds ps first bs → b + n ≤ length bs →
    ((q : ℕ) → b / 504 ≤ q → q < page_count (b + n) → part (504 * (q % 4)) 504 ring ≡ payload (page_at ps (first + q))) → ringed b n ring ≡ part b n bs
ring_reads ps first bs ring b n bytes h l came =
    let long : length (part b n bs) ≡ n = length-take-le n (drop b bs) (omega (arith, length-drop b bs)) in
    same_lists (ringed b n ring) (part b n bs) (length_ringed b n ring ∙ sym long)
    (λ j d g.
    let i : j < n = omega (arith, length_ringed b n ring) in
    let o : ℕ = b + j in
    let at : o % 2016 ≡ 504 * (o / 504 % 4) + o % 504 = omega arith in
    get_or_default (ringed b n ring) j d 0 g ∙ ringed_at b n ring j i ∙ ap (λ k. get_or ring k 0 % 256) at
    ∙ ring_byte ps ring (first + o / 504) (o / 504) (o % 504) bytes (omega arith) (came (o / 504) (omega arith) (omega arith))
    ∙ stream_byte ps first bs o h (omega arith)
    ∙ sym (get_or-take n (drop b bs) j 0 i ∙ get_or-drop b bs j 0) ∙ get_or_default (part b n bs) j 0 d (omega arith))
