-- A version as a line of text.
--   shown        a byte: printable ASCII as itself, any other as \xNN
--   quoted       numbers as bytes in double quotes
--   line_of      the line that shows a row
use Rattle.std.specs.Prelude.{ℕ, ◌+◌, ◌-◌, ◌/◌, ◌%◌, cond, ◌&&◌, List, [], ◌∷◌, ◌++◌, take, drop, nat_le, nat_lt}
use Rattle.std.specs.List.{flat_map}

abbrev pub hex_digit : ℕ → ℕ
hex_digit n = cond (nat_lt (n % 16) 10) (48 + n % 16) (97 + (n % 16 - 10))

abbrev pub shown : ℕ → List ℕ
shown b = cond (nat_le 32 b && nat_le b 126) (b ∷ []) (92 ∷ 120 ∷ hex_digit (b / 16) ∷ hex_digit b ∷ [])

abbrev pub all_shown : List ℕ → List ℕ
all_shown ns = flat_map (λ n. shown (n % 256)) ns

abbrev pub quoted : List ℕ → List ℕ
quoted ns = 34 ∷ (all_shown ns ++ 34 ∷ [])

abbrev pub line_of : List ℕ → List ℕ
line_of [] = []
line_of (len ∷ rest) = quoted (take len rest) ++ 32 ∷ (quoted (drop len rest) ++ 10 ∷ [])
