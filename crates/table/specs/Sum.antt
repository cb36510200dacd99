-- The checksum of a page: Horner's rule over its 63 words of eight bytes, in its last eight bytes. A page that was never written, all 0, is not sound, since the rule begins with 1.
--   next_sum h w      the sum with one more word
--   sum_from k h bs   the sum over the next k words
--   page_sum p        the sum of a page's payload, its first 504 bytes; past the end bytes count as 0
--   stored_sum p      the sum that a page carries
--   is_sound p        the two are one
--   sealed_page p     a page with its sum written over its last eight bytes
use Rattle.std.specs.Prelude.{◌≡◌, ℕ, zero, suc, ◌+◌, ◌*◌, ◌%◌, ◌^◌, Bool, true, false, List, length, take, drop, replicate, ◌==◌, nat_le}
use Rattle.value.specs.Versions.{pick}
use Rattle.value.specs.Numbers.{number, number_at, bytes_of, put_at, all_bytes}

abbrev pub next_sum : ℕ → ℕ → ℕ
next_sum h w = (h * 6364136223846793005 + w) % 2 ^ 64

unfoldable pub sum_from : ℕ → ℕ → List ℕ → ℕ
sum_from zero h bs = h
sum_from (suc k) h bs = sum_from k (next_sum h (number (take 8 bs))) (drop 8 bs)

unfoldable pub page_sum : List ℕ → ℕ
page_sum bs = sum_from 63 1 bs

abbrev pub stored_sum : List ℕ → ℕ
stored_sum p = number_at 8 504 p

abbrev pub is_sound : List ℕ → Bool
is_sound p = stored_sum p == page_sum p

unfoldable pub sealed_page : List ℕ → List ℕ
sealed_page p = pick (nat_le 512 (length p)) (put_at 504 (bytes_of 8 (page_sum p)) p) p

-- A page that was never written is not sound.
abbrev pub BlankUnsound : Type 0
BlankUnsound = is_sound (replicate 512 0) ≡ false

-- Of two pages that differ only within eight bytes in a row, the sum's own bytes included, at most one has the right sum.
abbrev pub DamageFound : Type 0
DamageFound =
    (p q : List ℕ) (at : ℕ) → length p ≡ 512 → all_bytes p ≡ true → length q ≡ 512 → all_bytes q ≡ true → take at p ≡ take at q → drop (at + 8) p ≡ drop (at + 8) q →
    is_sound p ≡ true → is_sound q ≡ true → p ≡ q
