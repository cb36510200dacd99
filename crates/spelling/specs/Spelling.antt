-- What a word spells.
--   longer       a number with one decimal digit more, if it stays below 2^64
--   number_of    what a row of decimal digits spells
--   numeral_of   the number that a word spells
--   plainly      a word without quotes that spells this
use Rattle.std.specs.Prelude.{ℕ, ◌+◌, ◌-◌, ◌*◌, Bool, cond, not, ◌&&◌, List, [], ◌∷◌, Some, None, Option, nat_le, nat_lt}
use Rattle.std.specs.Str.{bytes_eq}
use Rattle.spelling.specs.Word.{Text}

abbrev pub below_64_bits : ℕ → Option ℕ
below_64_bits n = cond (nat_lt n 18446744073709551616) (Some n) None

abbrev pub longer : ℕ → ℕ → Option ℕ
longer n b = cond (nat_le 48 b && nat_le b 57) (below_64_bits (n * 10 + (b - 48))) None

abbrev pub and_then : Option ℕ → (ℕ → Option ℕ) → Option ℕ
and_then (Some n) go = go n
and_then None go = None

unfoldable pub digits_from : ℕ → List ℕ → Option ℕ
digits_from n [] = Some n
digits_from n (b ∷ bs) = and_then (longer n b) (λ m. digits_from m bs)

abbrev pub number_of : List ℕ → Option ℕ
number_of [] = None
number_of (b ∷ bs) = digits_from 0 (b ∷ bs)

-- a number stands without quotes
abbrev pub numeral_of : Text → Option ℕ
numeral_of w = cond w.0 None (number_of w.1)

abbrev pub plainly : Text → List ℕ → Bool
plainly w name = not w.0 && bytes_eq w.1 name
