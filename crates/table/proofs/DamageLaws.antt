-- Damage within eight bytes in a row changes the checksum: within one word by a multiple of a power of the odd factor, across two words in a part of the second that the first cannot undo.
use Rattle.std.proofs.Common.{◌≡◌, ℕ, zero, suc, ◌+◌, ◌-◌, ◌*◌, ◌/◌, ◌%◌, ◌^◌, ◌<◌, ◌≤◌, true, List, [], ◌∷◌, ◌++◌, length, take, drop, sym, refl, ap, ◌∙◌, subst, ⊎_elim, mod-eq_of_lt, mul_assoc, mul-add, arith, lit<, pow-add, eqb-true}
use native.Mathlib.Nat.{add-mul-mod_self_left, pow-succ'}
use Rattle.std.proofs.lemmas.List.{take-take, drop-drop, drop-take, take_all, take-append-drop, length-take-le, length-drop}
use Rattle.std.proofs.lemmas.Bool.{cases_lt}
use Rattle.value.specs.Versions.{every}
use Rattle.value.specs.Numbers.{number, bytes_of, is_byte, all_bytes}
use Rattle.value.proofs.TestLaws.{and_left_of, and_right_of}
use Rattle.value.proofs.NumberLaws.{bytes_of_number, number_below}
use Rattle.table.specs.Sum.{next_sum, sum_from, page_sum, DamageFound}

-- each is a byte
abbrev All : List ℕ → Type 0
All bs = all_bytes bs ≡ true

cancel_word : (h w v : ℕ) → w < 2 ^ 64 → v < 2 ^ 64 → next_sum h w ≡ next_sum h v → w ≡ v
cancel_word h w v a b e = omega arith

below : (x y a b : ℕ) → x < 2 ^ 64 → y < 2 ^ 64 → x + 2 ^ 64 * a ≡ y + 2 ^ 64 * b → x ≡ y
below x y a b l m e = omega arith

-- 13877824140714322085 is the factor's inverse: their product is one more than 4787856489426250814 times 2 ^ 64
cancel_state : (x y w : ℕ) → x < 2 ^ 64 → y < 2 ^ 64 → next_sum x w ≡ next_sum y w → x ≡ y
cancel_state x y w a b e =
    let p : ℕ = (x * 6364136223846793005 + w) / 2 ^ 64 in
    let q : ℕ = (y * 6364136223846793005 + w) / 2 ^ 64 in
    below x y (x * 4787856489426250814 + q * 13877824140714322085) (y * 4787856489426250814 + p * 13877824140714322085) a b (omega arith)

step_lt : (h w : ℕ) → next_sum h w < 2 ^ 64
step_lt h w = omega arith

spread : (b m u z c : ℕ) → b * m ≡ 2 ^ 64 → b * (u * c + m * z) ≡ b * u * c + 2 ^ 64 * z
spread b m u z c e = mul-add b (u * c) (m * z) ∙ (λ i. sym (mul_assoc b u c) i + (sym (mul_assoc b m z) ∙ ap (λ k. k * z) e) i)

low_same : (b s t y z : ℕ) → s < b → t < b → s + b * y ≡ t + b * z → s ≡ t
low_same b s t y z l m e =
    sym (mod-eq_of_lt l) ∙ sym (add-mul-mod_self_left s b y) ∙ ap (λ k. k % b) e ∙ add-mul-mod_self_left t b z ∙ mod-eq_of_lt m

-- two words in a row, of which the first keeps its low bytes and the second its high ones
module _ (b m h l u v s t k x x' y y' : ℕ) (e : b * m ≡ 2 ^ 64) (f : x ≡ l + b * u) (g : x' ≡ l + b * v) (i : y ≡ s + b * k) (j : y' ≡ t + b * k) (c : s < b) (d : t < b) where
  seam : next_sum (next_sum h x) y ≡ next_sum (next_sum h x') y' → y ≡ y'
  seam o =
      let q : ℕ = (h * 6364136223846793005 + x) / 2 ^ 64 in
      let q' : ℕ = (h * 6364136223846793005 + x') / 2 ^ 64 in
      let r : ℕ = (next_sum h x * 6364136223846793005 + y) / 2 ^ 64 in
      let r' : ℕ = (next_sum h x' * 6364136223846793005 + y') / 2 ^ 64 in
      let low = low_same b s t (u * 6364136223846793005 + m * (q' * 6364136223846793005 + r')) (v * 6364136223846793005 + m * (q * 6364136223846793005 + r)) c d
      (omega (arith, spread b m u (q' * 6364136223846793005 + r') 6364136223846793005 e, spread b m v (q * 6364136223846793005 + r) 6364136223846793005 e)) in
      omega (arith, low)

  -- the second is the sum itself
  seam_last : next_sum h x ≡ y → next_sum h x' ≡ y' → y ≡ y'
  seam_last o n =
      let q : ℕ = (h * 6364136223846793005 + x) / 2 ^ 64 in
      let q' : ℕ = (h * 6364136223846793005 + x') / 2 ^ 64 in
      let low = low_same b s t (v * 1 + m * q) (u * 1 + m * q') c d
      (omega (arith, spread b m v q 1 e, spread b m u q' 1 e)) in
      omega (arith, low)

sum_state : (n x y : ℕ) (bs : List ℕ) → x < 2 ^ 64 → y < 2 ^ 64 → sum_from n x bs ≡ sum_from n y bs → x ≡ y
unfolding sum_from
sum_state zero x y bs l m e = e
sum_state (suc n) x y bs l m e =
    cancel_state x y (number (take 8 bs)) l m (sum_state n _ _ (drop 8 bs) (step_lt x (number (take 8 bs))) (step_lt y (number (take 8 bs))) e)

-- bytes
number_split : (k : ℕ) (xs : List ℕ) → k ≤ length xs → number xs ≡ number (take k xs) + 256 ^ k * number (drop k xs)
unfolding number
number_split zero xs l = omega arith
number_split (suc k) [] l = absurd (omega arith)
number_split (suc k) (x ∷ xs) l =
    let e : 256 ^ suc k * number (drop k xs) ≡ 256 * (256 ^ k * number (drop k xs)) = ap (λ t. t * number (drop k xs)) (pow-succ' 256 k) ∙ mul_assoc 256 (256 ^ k) (number (drop k xs)) in
    omega (arith, number_split k xs (omega arith), e)

same_number : (xs ys : List ℕ) → All xs → All ys → length xs ≡ length ys → number xs ≡ number ys → xs ≡ ys
same_number xs ys b c l e = sym (bytes_of_number xs b) ∙ (λ i. bytes_of (l i) (e i)) ∙ bytes_of_number ys c

pub bytes_take : (n : ℕ) (xs : List ℕ) → all_bytes xs ≡ true → all_bytes (take n xs) ≡ true
unfolding every
bytes_take zero xs b = refl
bytes_take (suc n) [] b = refl
bytes_take (suc n) (x ∷ xs) b = rw (and_left_of (is_byte x) (all_bytes xs) b) (bytes_take n xs (and_right_of (is_byte x) (all_bytes xs) b))

pub bytes_drop : (n : ℕ) (xs : List ℕ) → all_bytes xs ≡ true → all_bytes (drop n xs) ≡ true
unfolding every
bytes_drop zero xs b = b
bytes_drop (suc n) [] b = refl
bytes_drop (suc n) (x ∷ xs) b = bytes_drop n xs (and_right_of (is_byte x) (all_bytes xs) b)

take_less : (m n : ℕ) (xs ys : List ℕ) → m ≤ n → take n xs ≡ take n ys → take m xs ≡ take m ys
take_less m n xs ys l e = sym (take-take m n xs l) ∙ ap (take m) e ∙ take-take m n ys l

drop_less : (m n : ℕ) (xs ys : List ℕ) → m ≤ n → drop m xs ≡ drop m ys → drop n xs ≡ drop n ys
drop_less m n xs ys l e =
    let k : m + (n - m) ≡ n = omega arith in
    ap (λ t. drop t xs) (sym k) ∙ sym (drop-drop (n - m) m xs) ∙ ap (drop (n - m)) e ∙ drop-drop (n - m) m ys ∙ ap (λ t. drop t ys) k

join : (n : ℕ) (xs ys : List ℕ) → take n xs ≡ take n ys → drop n xs ≡ drop n ys → xs ≡ ys
join n xs ys e f = sym (take-append-drop n xs) ∙ (λ i. e i ++ f i) ∙ take-append-drop n ys

word_lt : (xs : List ℕ) → All xs → 8 ≤ length xs → number (take 8 xs) < 2 ^ 64
word_lt xs b l = let k : length (take 8 xs) ≡ 8 = length-take-le 8 xs l in
    let P : ℕ → Type 0 = λ t. number (take 8 xs) < 256 ^ t in subst P k (number_below (take 8 xs) (bytes_take 8 xs b))

-- a word in two parts
split_word : (at : ℕ) (r : List ℕ) → at < 8 → 8 ≤ length r → number (take 8 r) ≡ number (take at r) + 256 ^ at * number (drop at (take 8 r))
split_word at r w l =
    number_split at (take 8 r) (omega (arith, length-take-le 8 r l)) ∙ ap (λ z. number z + 256 ^ at * number (drop at (take 8 r))) (take-take at 8 r (omega arith))

high_part : (at : ℕ) (r : List ℕ) → at < 8 → drop at (take 8 (drop 8 r)) ≡ take (8 - at) (drop (at + 8) r)
high_part at r w =
    let k : at + (8 - at) ≡ 8 = omega arith in
    let n : 8 + at ≡ at + 8 = omega arith in
    ap (λ t. drop at (take t (drop 8 r))) (sym k) ∙ drop-take at (8 - at) (drop 8 r) ∙ ap (take (8 - at)) (drop-drop at 8 r ∙ ap (λ t. drop t r) n)

low_lt : (at : ℕ) (r : List ℕ) → All r → at ≤ length r → number (take at r) < 256 ^ at
low_lt at r b l = let P : ℕ → Type 0 = λ t. number (take at r) < 256 ^ t in subst P (length-take-le at r l) (number_below (take at r) (bytes_take at r b))

-- two words that a window begins in the first of
module _ (at : ℕ) (p q : List ℕ) (w : at < 8) (bp : All p) (bq : All q) (lp : 16 ≤ length p) (lq : 16 ≤ length q) (e : take at p ≡ take at q) (f : drop (at + 8) p ≡ drop (at + 8) q) where
  whole : 256 ^ at * 256 ^ (8 - at) ≡ 2 ^ 64
  whole = let k : at + (8 - at) ≡ 8 = omega arith in sym (pow-add 256 at (8 - at)) ∙ ap (λ t. 256 ^ t) k

  high : drop at (take 8 (drop 8 q)) ≡ drop at (take 8 (drop 8 p))
  high = high_part at q w ∙ ap (take (8 - at)) (sym f) ∙ sym (high_part at p w)

  x_is : number (take 8 q) ≡ number (take at p) + 256 ^ at * number (drop at (take 8 q))
  x_is = split_word at q w (omega arith) ∙ ap (λ z. number z + 256 ^ at * number (drop at (take 8 q))) (sym e)

  y_is : number (take 8 (drop 8 q)) ≡ number (take at (drop 8 q)) + 256 ^ at * number (drop at (take 8 (drop 8 p)))
  y_is = split_word at (drop 8 q) w (omega (arith, length-drop 8 q)) ∙ ap (λ z. number (take at (drop 8 q)) + 256 ^ at * number z) high

  second_same : (h : ℕ) → next_sum (next_sum h (number (take 8 p))) (number (take 8 (drop 8 p))) ≡ next_sum (next_sum h (number (take 8 q))) (number (take 8 (drop 8 q))) → number (take 8 (drop 8 p)) ≡ number (take 8 (drop 8 q))
  second_same h =
      seam (256 ^ at) (256 ^ (8 - at)) h (number (take at p)) (number (drop at (take 8 p))) (number (drop at (take 8 q))) (number (take at (drop 8 p))) (number (take at (drop 8 q))) (number (drop at (take 8 (drop 8 p)))) _ _ _ _
      whole (split_word at p w (omega arith)) x_is (split_word at (drop 8 p) w (omega (arith, length-drop 8 p))) y_is
      (low_lt at (drop 8 p) (bytes_drop 8 p bp) (omega (arith, length-drop 8 p))) (low_lt at (drop 8 q) (bytes_drop 8 q bq) (omega (arith, length-drop 8 q)))

  last_same : (h : ℕ) → next_sum h (number (take 8 p)) ≡ number (take 8 (drop 8 p)) → next_sum h (number (take 8 q)) ≡ number (take 8 (drop 8 q)) → number (take 8 (drop 8 p)) ≡ number (take 8 (drop 8 q))
  last_same h =
      seam_last (256 ^ at) (256 ^ (8 - at)) h (number (take at p)) (number (drop at (take 8 p))) (number (drop at (take 8 q))) (number (take at (drop 8 p))) (number (take at (drop 8 q))) (number (drop at (take 8 (drop 8 p)))) _ _ _ _
      whole (split_word at p w (omega arith)) x_is (split_word at (drop 8 p) w (omega (arith, length-drop 8 p))) y_is
      (low_lt at (drop 8 p) (bytes_drop 8 p bp) (omega (arith, length-drop 8 p))) (low_lt at (drop 8 q) (bytes_drop 8 q bq) (omega (arith, length-drop 8 q)))

  -- with both words, all is the same
  both_same : number (take 8 p) ≡ number (take 8 q) → number (take 8 (drop 8 p)) ≡ number (take 8 (drop 8 q)) → p ≡ q
  both_same g i =
      let one : take 8 p ≡ take 8 q = same_number (take 8 p) (take 8 q) (bytes_take 8 p bp) (bytes_take 8 q bq) (length-take-le 8 p (omega arith) ∙ sym (length-take-le 8 q (omega arith))) g in
      let two : take 8 (drop 8 p) ≡ take 8 (drop 8 q) = same_number _ _ (bytes_take 8 (drop 8 p) (bytes_drop 8 p bp)) (bytes_take 8 (drop 8 q) (bytes_drop 8 q bq)) (length-take-le 8 (drop 8 p) (omega (arith, length-drop 8 p)) ∙ sym (length-take-le 8 (drop 8 q) (omega (arith, length-drop 8 q)))) i in
      let rest : drop 16 p ≡ drop 16 q = drop_less (at + 8) 16 p q (omega arith) f in
      join 8 p q one (join 8 (drop 8 p) (drop 8 q) two (drop-drop 8 8 p ∙ rest ∙ sym (drop-drop 8 8 q)))

  -- the window reaches into the second word of n + 2, the last of which is the sum
  near : (n h : ℕ) → h < 2 ^ 64 → sum_from (suc n) h p ≡ number (take 8 (drop (suc n * 8) p)) → sum_from (suc n) h q ≡ number (take 8 (drop (suc n * 8) q)) → p ≡ q
  unfolding sum_from
  near zero h l g i =
      let y = last_same h g i in
      both_same (cancel_word h _ _ (word_lt p bp (omega arith)) (word_lt q bq (omega arith)) (g ∙ y ∙ sym i)) y
  near (suc n) h l g i =
      let X : ℕ = number (take 8 p) in
      let X' : ℕ = number (take 8 q) in
      let Y : ℕ = number (take 8 (drop 8 p)) in
      let Y' : ℕ = number (take 8 (drop 8 q)) in
      let rest : drop 8 (drop 8 p) ≡ drop 8 (drop 8 q) = drop-drop 8 8 p ∙ drop_less (at + 8) 16 p q (omega arith) f ∙ sym (drop-drop 8 8 q) in
      let far : drop (suc (suc n) * 8) p ≡ drop (suc (suc n) * 8) q = drop_less (at + 8) (suc (suc n) * 8) p q (omega arith) f in
      let s : next_sum (next_sum h X) Y ≡ next_sum (next_sum h X') Y' =
      sum_state n _ _ (drop 8 (drop 8 p)) (step_lt (next_sum h X) Y) (step_lt (next_sum h X') Y')
      (g ∙ ap (λ z. number (take 8 z)) far ∙ sym i ∙ ap (λ z. sum_from n (next_sum (next_sum h X') Y') z) (sym rest)) in
      let y : Y ≡ Y' = second_same h s in
      let t : next_sum h X ≡ next_sum h X' = cancel_state _ _ Y (step_lt h X) (step_lt h X') (s ∙ ap (λ z. next_sum (next_sum h X') z) (sym y)) in
      both_same (cancel_word h X X' (word_lt p bp (omega arith)) (word_lt q bq (omega arith)) t) y

-- pages of n words and their sum
window : (n h : ℕ) (p q : List ℕ) (at : ℕ) → h < 2 ^ 64 → length p ≡ n * 8 + 8 → length q ≡ n * 8 + 8 → All p → All q → take at p ≡ take at q → drop (at + 8) p ≡ drop (at + 8) q → sum_from n h p ≡ number (take 8 (drop (n * 8) p)) → sum_from n h q ≡ number (take 8 (drop (n * 8) q)) → p ≡ q
unfolding sum_from
window zero h p q at l lp lq bp bq e f g i =
    same_number p q bp bq (lp ∙ sym lq) (ap number (sym (take_all 8 p (omega arith))) ∙ sym g ∙ i ∙ ap number (take_all 8 q (omega arith)))
window (suc n) h p q at l lp lq bp bq e f g i =
    ⊎_elim
    (λ w. near at p q w bp bq (omega arith) (omega arith) e f n h l g i)
    (λ w.
    let one : take 8 p ≡ take 8 q = take_less 8 at p q w e in
    let k : 8 + (at - 8) ≡ at = omega arith in
    let m : 8 + (at - 8 + 8) ≡ at + 8 = omega arith in
    let d : 8 + n * 8 ≡ suc n * 8 = omega arith in
    let front : (r : List ℕ) → take (at - 8) (drop 8 r) ≡ drop 8 (take at r) = λ r. sym (drop-take 8 (at - 8) r) ∙ ap (λ t. drop 8 (take t r)) k in
    let back : (r : List ℕ) → drop (at - 8 + 8) (drop 8 r) ≡ drop (at + 8) r = λ r. drop-drop (at - 8 + 8) 8 r ∙ ap (λ t. drop t r) m in
    let sum : (r : List ℕ) → number (take 8 (drop (suc n * 8) r)) ≡ number (take 8 (drop (n * 8) (drop 8 r))) = λ r. ap (λ t. number (take 8 t)) (ap (λ t. drop t r) (sym d) ∙ sym (drop-drop (n * 8) 8 r)) in
    join 8 p q one
    (window n (next_sum h (number (take 8 p))) (drop 8 p) (drop 8 q) (at - 8) (step_lt h (number (take 8 p)))
    (omega (arith, length-drop 8 p)) (omega (arith, length-drop 8 q)) (bytes_drop 8 p bp) (bytes_drop 8 q bq)
    (front p ∙ ap (drop 8) e ∙ sym (front q)) (back p ∙ f ∙ sym (back q)) (g ∙ sum p)
    (ap (λ t. sum_from n (next_sum h (number t)) (drop 8 q)) one ∙ i ∙ sum q)))
    (cases_lt at 8)

pub damage_found : DamageFound
unfolding page_sum
damage_found p q at lp bp lq bq e f s t = window 63 1 p q at (lit< tt) lp lq bp bq e f (sym (eqb-true _ _ s)) (sym (eqb-true _ _ t))
