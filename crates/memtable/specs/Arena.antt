-- The arena: versions in the order in which they came. From a version's place on there stand its moment, its measures, the key's bytes and the value's bytes, packed.
-- The measures are one word: the key's length, 256 times the value's length, and 2^20 if the key is gone.
-- `version_at arena p`: the version that stands at the place p, whatever the words are. `encoded v`: a version as words. `size k v`: how many words.
-- `order_at arena p k`: where the key at p stands to another, word by word, and by their lengths where all words are the same.
-- `appended`: the arena with one version more, from the first free word on; unchanged if the version's measures are not allowed or it finds no room.
use Rattle.std.specs.Prelude.{ℕ, ◌+◌, ◌*◌, ◌/◌, ◌%◌, Bool, ◌&&◌, List, ◌∷◌, ◌++◌, length, ◌==◌, nat_le, nat_lt, slice_index}
use Rattle.value.specs.Versions.{pick, Version, version}
use Rattle.value.specs.Count.{smaller}
use Rattle.std.specs.declared.cmp.Ordering.{Ordering}
use Rattle.std.specs.declared.cmp.Ordering.TheVariants.{Less, Equal, Greater}
use Rattle.memtable.specs.Words.{words, packed_word, pack, row, put_row}
use Rattle.memtable.specs.Loops.{compare}

abbrev pub moment_at : List ℕ → ℕ → ℕ
moment_at arena p = slice_index arena p

abbrev pub key_length : List ℕ → ℕ → ℕ
key_length arena p = slice_index arena (p + 1) % 256

abbrev pub value_length : List ℕ → ℕ → ℕ
value_length arena p = slice_index arena (p + 1) / 256 % 4096

abbrev pub gone_at : List ℕ → ℕ → Bool
gone_at arena p = slice_index arena (p + 1) / 1048576 % 2 == 1

abbrev pub key_at : List ℕ → ℕ → List ℕ
key_at arena p = row arena p 2 (key_length arena p)

abbrev pub value_at : List ℕ → ℕ → List ℕ
value_at arena p = row arena p (2 + words (key_length arena p)) (value_length arena p)

unfoldable pub version_at : List ℕ → ℕ → Version
version_at arena p = version (key_at arena p) (moment_at arena p) (gone_at arena p) (value_at arena p)

-- a number of 64 bits
abbrev pub wrap : ℕ → ℕ
wrap n = n % 18446744073709551616

abbrev pub measures : ℕ → ℕ → Bool → ℕ
measures k v gone = k + (256 * v + pick gone 1048576 0)

abbrev pub size : ℕ → ℕ → ℕ
size k v = 2 + (words k + words v)

unfoldable pub encoded : Version → List ℕ
encoded v =
    wrap v.moment ∷ measures (length v.key) (length v.value) v.gone ∷ (pack v.key ++ pack v.value)

abbrev pub has_room : ℕ → ℕ → ℕ → ℕ → Bool
has_room n used k v = (nat_le 1 k && (nat_le k 255 && nat_le v 1024)) && nat_le (used + size k v) n

unfoldable pub appended : List ℕ → ℕ → Version → List ℕ
appended arena used v =
    pick (has_room (length arena) used (length v.key) (length v.value)) (put_row arena used (encoded v)) arena

-- word k of the key that stands at p
unfoldable pub key_word : List ℕ → ℕ → ℕ → ℕ
key_word arena p k = slice_index arena (p + (2 + k))

abbrev pub by_length : ℕ → ℕ → Ordering
by_length a b = pick (nat_lt a b) Less (pick (nat_lt b a) Greater Equal)

unfoldable pub order_at : List ℕ → ℕ → List ℕ → Ordering
order_at arena p key =
    compare (key_word arena p) (packed_word key) (words (smaller (key_length arena p) (length key))) 0 (by_length (key_length arena p) (length key))
