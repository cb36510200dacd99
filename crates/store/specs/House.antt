-- What can be asked of the store, and what it is to answer, over one list of versions: a house is that list, what of it is safe, and two moments.
use Rattle.std.specs.Prelude.{◌≡◌, ℕ, zero, suc, ◌*◌, ◌<◌, Bool, true, false, ◌&&◌, ltb, ◌⊎◌, List, [], ◌∷◌, ◌++◌, length, take, drop, ◌==◌, nat_le, nat_lt}
use Rattle.value.specs.Rising.{last_moment}
use Rattle.value.specs.Versions.{pick, every, any, each, same, Version, version, seen, all_seen, in_range, kept, weight}

-- what's there; what stays if the machine stops; the latest moment of a write; no moment below this is asked for any more
pub record House : Type 0 where
  pub versions : List Version
  pub safe : List Version
  pub last : ℕ
  pub low : ℕ

abbrev pub house : List Version → List Version → ℕ → ℕ → House
house vs ss l t = record { versions = vs; safe = ss; last = l; low = t }

pub data Command : Type 0 where
  write : List ℕ → ℕ → List ℕ → Command  -- key, moment, value
  erase : List ℕ → ℕ → Command
  get : List ℕ → ℕ → Command  -- key, as it was seen at a moment
  range : List ℕ → List (List ℕ) → ℕ → Command
  first_key : ℕ → Command
  last_key : ℕ → Command
  count : ℕ → Command
  flush : Command  -- what's there is safe
  compact : ℕ → Command  -- safe, and nobody asks for a moment below this any more

abbrev pub a_key : List ℕ → Bool
a_key k = nat_le 1 (length k) && nat_le (length k) 255

-- 3 a write that's earlier than the last, or a key that was written at that moment; 4 a moment below the one up to which things are forgotten, or, to forget, above the last; 6 a key, or a value,
-- that's too long; 7 what isn't safe yet is too much; 8 there's no more room
abbrev pub written_then : House → List ℕ → ℕ → Bool
written_then h k m = any (λ v. same v.key k && v.moment == m) h.versions

abbrev pub write_refusal : House → List ℕ → ℕ → ℕ
write_refusal h k m = pick (nat_lt m h.last) 3 (pick (written_then h k m) 3 0)

abbrev pub asks : House → ℕ → ℕ
asks h s = pick (nat_lt s h.low) 4 0

unfoldable pub refusal : House → Command → ℕ
refusal h (write k m v) = pick (a_key k && nat_le (length v) 1024) (pick (nat_lt m 9223372036854775808) (write_refusal h k m) 6) 6
refusal h (erase k m) = pick (a_key k) (pick (nat_lt m 9223372036854775808) (write_refusal h k m) 6) 6
refusal h (get k s) = asks h s
refusal h (range a b s) = asks h s
refusal h (first_key s) = asks h s
refusal h (last_key s) = asks h s
refusal h (count s) = asks h s
refusal h flush = 0
refusal h (compact t) = pick (nat_lt t h.low) 4 (pick (nat_lt h.last t) 4 0)

-- what a write that isn't refused leaves
abbrev pub written : House → Version → House
written h v = house (h.versions ++ v ∷ []) h.safe v.moment h.low

abbrev pub unsafe : House → List Version
unsafe h = drop (length h.safe) h.versions

unfoldable pub after : House → Command → House
after h (write k m v) = written h (version k m false v)
after h (erase k m) = written h (version k m true [])
after h (get k s) = h
after h (range a b s) = h
after h (first_key s) = h
after h (last_key s) = h
after h (count s) = h
after h flush = house h.versions h.versions h.last h.low
after h (compact t) = house h.versions h.versions h.last t

-- what's shown: of a version its key's length, the key, and the value
abbrev pub shown_as : Version → List ℕ
shown_as v = length v.key ∷ v.key ++ v.value

unfoldable pub last_of : List Version → List Version
last_of [] = []
last_of (v ∷ []) = v ∷ []
last_of (v ∷ u ∷ vs) = last_of (u ∷ vs)

unfoldable pub shows : House → Command → List (List ℕ)
shows h (write k m v) = []
shows h (erase k m) = []
shows h (get k s) = each shown_as (seen h.versions k s)
shows h (range a b s) = each shown_as (in_range h.versions s a b)
shows h (first_key s) = each shown_as (take 1 (all_seen h.versions s))
shows h (last_key s) = each shown_as (last_of (all_seen h.versions s))
shows h (count s) = each (λ k. k ∷ []) (length (all_seen h.versions s) ∷ [])
shows h flush = []
shows h (compact t) = []

-- 7 only if what isn't safe weighs a megabyte with it; 8 only if what has to be kept weighs more than a quarter of the pages' bytes with it
abbrev pub needed : House → List Version
needed h = kept h.low h.versions

abbrev pub full_by : House → ℕ → Bool
full_by h pages = nat_lt (128 * pages) (weight (needed h))

unfoldable pub RefusedToo : House → ℕ → Command → ℕ → Type 0
RefusedToo h pages (write k m v) r =
    ((r ≡ 7) × (nat_lt 1048576 (weight (unsafe (written h (version k m false v)))) ≡ true)) ⊎ ((r ≡ 8) × (full_by (written h (version k m false v)) pages ≡ true)
    × (nat_lt 1048576 (weight (unsafe (written h (version k m false v)))) ≡ false))
RefusedToo h pages (erase k m) r =
    ((r ≡ 7) × (nat_lt 1048576 (weight (unsafe (written h (version k m true [])))) ≡ true)) ⊎ ((r ≡ 8) × (full_by (written h (version k m true [])) pages ≡ true)
    × (nat_lt 1048576 (weight (unsafe (written h (version k m true [])))) ≡ false))
RefusedToo h pages (get k s) r = zero ≡ suc zero
RefusedToo h pages (range a b s) r = zero ≡ suc zero
RefusedToo h pages (first_key s) r = zero ≡ suc zero
RefusedToo h pages (last_key s) r = zero ≡ suc zero
RefusedToo h pages (count s) r = zero ≡ suc zero
RefusedToo h pages flush r = zero ≡ suc zero
RefusedToo h pages (compact t) r = zero ≡ suc zero

-- HOW A COMMAND MAY END, what's shown, and the house afterwards
unfoldable pub May : ℕ → House → Command → ℕ → List (List ℕ) → House → Type 0
May pages h c r ss h₁ =
    (0 < refusal h c → (r ≡ refusal h c) × (ss ≡ []) × (h₁ ≡ h))
    × (refusal h c ≡ 0 →
    (((r ≡ 0) × (ss ≡ shows h c) × (h₁ ≡ after h c)) ⊎ (RefusedToo h pages c r × (ss ≡ []) × (h₁ ≡ h))))

-- AFTER A STOP: what's safe, or what a command that made it safe would have left; the last write's moment is that of what's there
abbrev pub stopped_house : House → House
stopped_house h = house h.safe h.safe (last_moment h.safe) h.low

unfoldable pub small_command : Command → Bool
small_command (write k m v) = nat_le (length k) 4096 && (nat_le (length v) 4096 && (every (λ b. ltb b 256) (k ++ v) && nat_lt m 18446744073709551616))
small_command (erase k m) = nat_le (length k) 4096 && (every (λ b. ltb b 256) k && nat_lt m 18446744073709551616)
small_command (get k s) = nat_le (length k) 4096 && (every (λ b. ltb b 256) k && nat_lt s 18446744073709551616)
small_command (range a b s) =
    (nat_le (length a) 4096 && every (λ x. ltb x 256) a) && ((nat_le (length b) 1 && every (λ k. nat_le (length k) 4096 && every (λ x. ltb x 256) k) b) && nat_lt s 18446744073709551616)
small_command (first_key s) = nat_lt s 18446744073709551616
small_command (last_key s) = nat_lt s 18446744073709551616
small_command (count s) = nat_lt s 18446744073709551616
small_command flush = true
small_command (compact t) = nat_lt t 18446744073709551616

-- THE SMALL CORE: writing, and getting. The requests widen it, until everything is known.
unfoldable pub core : Command → Bool
core (write k m v) = true
core (erase k m) = true
core (get k s) = true
core (range a b s) = false
core (first_key s) = false
core (last_key s) = false
core (count s) = false
core flush = true
core (compact t) = false

abbrev pub everything : Command → Bool
everything c = true
