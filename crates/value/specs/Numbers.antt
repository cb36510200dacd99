-- Numbers in rows of bytes, the lowest byte first.
--   number bs           the number that the bytes write
--   bytes_of k n        the lowest k bytes of n
--   number_at k at row  the number in the k bytes at a place; past the row's end bytes count as 0
--   part at n row       the n bytes at a place, or those of them that are there
--   put_at at ys row    the row with ys in place of what stood at a place
--   all_bytes bs        each is below 256
use Rattle.std.specs.Prelude.{◌≡◌, ℕ, zero, suc, ◌+◌, ◌*◌, ◌/◌, ◌%◌, ◌^◌, ◌<◌, Bool, true, List, [], ◌∷◌, ◌++◌, length, take, drop, nat_lt}
use Rattle.value.specs.Versions.{every}

unfoldable pub number : List ℕ → ℕ
number [] = 0
number (b ∷ bs) = b + 256 * number bs

unfoldable pub bytes_of : ℕ → ℕ → List ℕ
bytes_of zero n = []
bytes_of (suc k) n = n % 256 ∷ bytes_of k (n / 256)

abbrev pub part : ℕ → ℕ → List ℕ → List ℕ
part at n row = take n (drop at row)

abbrev pub number_at : ℕ → ℕ → List ℕ → ℕ
number_at k at row = number (part at k row)

abbrev pub put_at : {A : Type 0} → ℕ → List A → List A → List A
put_at at ys row = take at row ++ (ys ++ drop (length ys) (drop at row))

abbrev pub is_byte : ℕ → Bool
is_byte b = nat_lt b 256

abbrev pub all_bytes : List ℕ → Bool
all_bytes bs = every is_byte bs

-- What is written reads back, and what is read writes back.
pub record NumberRoundTrips : Type 0 where
  pub reads : (k n : ℕ) → n < 256 ^ k → number (bytes_of k n) ≡ n
  pub writes : (bs : List ℕ) → all_bytes bs ≡ true → bytes_of (length bs) (number bs) ≡ bs
  pub bytes : (k n : ℕ) → all_bytes (bytes_of k n) ≡ true
  pub long : (k n : ℕ) → length (bytes_of k n) ≡ k
