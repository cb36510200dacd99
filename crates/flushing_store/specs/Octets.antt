-- Bytes in rows of words, a byte a word.
--   put_octets at bs ws   the words with these bytes at a place, where they fit
use Rattle.std.specs.Prelude.{ℕ, ◌+◌, List, length, nat_le}
use Rattle.value.specs.Versions.{pick}
use Rattle.value.specs.Numbers.{put_at}
use Rattle.table.specs.Row.{octets}

unfoldable pub put_octets : ℕ → List ℕ → List ℕ → List ℕ
put_octets at bs ws = pick (nat_le (at + length bs) (length ws)) (put_at at (octets (length bs) bs) ws) ws
