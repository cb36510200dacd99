-- Words of 64 bits, and bytes packed into them eight to a word, the highest first, the last word filled up by 0.
-- `octet bs i`: byte i of a row, 0 past its end. `word bs k`: the eight bytes from k on as one word. `words n`: how many words n bytes take.
-- `pack bs`: the bytes as words. `byte w k`: byte k of a word. `row ws p s n`: the n bytes that lie s words behind the place p.
-- `laid bs out`: a row of bytes with bs laid over its beginning, as far as there is room. `put_row ws at xs`: words with xs written over them from `at` on.
use Rattle.std.specs.Prelude.{ℕ, ◌+◌, ◌-◌, ◌*◌, ◌/◌, ◌%◌, ◌^◌, Bool, List, ◌++◌, map, length, take, drop, nat_lt, slice_index}
use Rattle.std.specs.List.{range_with_len}
use Rattle.value.specs.Versions.{every}

-- is each number of a row a byte?
abbrev pub bytes : List ℕ → Bool
bytes bs = every (λ b. nat_lt b 256) bs

abbrev pub octet : List ℕ → ℕ → ℕ
octet bs i = slice_index bs i % 256

abbrev pub word : List ℕ → ℕ → ℕ
word bs k =
    octet bs k * 72057594037927936 + octet bs (k + 1) * 281474976710656 + octet bs (k + 2) * 1099511627776 + octet bs (k + 3) * 4294967296
    + octet bs (k + 4) * 16777216 + octet bs (k + 5) * 65536 + octet bs (k + 6) * 256 + octet bs (k + 7)

abbrev pub words : ℕ → ℕ
words n = (n + 7) / 8

-- word k of a packed row
unfoldable pub packed_word : List ℕ → ℕ → ℕ
packed_word bs k = word bs (8 * k)

unfoldable pub pack : List ℕ → List ℕ
pack bs = map (packed_word bs) (range_with_len 0 (words (length bs)))

abbrev pub byte : ℕ → ℕ → ℕ
byte w k = w / 2 ^ (56 - 8 * k) % 256

-- byte i of what lies s words behind the place p
unfoldable pub byte_behind : List ℕ → ℕ → ℕ → ℕ → ℕ
byte_behind ws p s i = byte (slice_index ws (p + (s + i / 8))) (i % 8)

unfoldable pub row : List ℕ → ℕ → ℕ → ℕ → List ℕ
row ws p s n = map (byte_behind ws p s) (range_with_len 0 n)

unfoldable pub laid : List ℕ → List ℕ → List ℕ
laid bs out = take (length out) bs ++ drop (length bs) out

unfoldable pub put_row : List ℕ → ℕ → List ℕ → List ℕ
put_row ws at xs = take at ws ++ (xs ++ drop (at + length xs) ws)
