-- Bytes in words of memory, a byte a word.
--   octets n ws     the n bytes that the first words hold; past the end 0
use Rattle.std.specs.Prelude.{ℕ, zero, suc, ◌%◌, List, [], ◌∷◌, drop, slice_index}

unfoldable pub octets : ℕ → List ℕ → List ℕ
octets zero ws = []
octets (suc n) ws = slice_index ws 0 % 256 ∷ octets n (drop 1 ws)
