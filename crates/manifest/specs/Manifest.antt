-- The list of tables on a page: 63 words of eight bytes, the lowest byte first, and the page's sum.
--   word_at i p        word i of a page, within 64 bits; past the end bytes count as 0
--   words_from i n p   n words, from word i on
--   row_of ws          the bytes of words
--   pair_of a b        two numbers of four bytes in one word
--   words_of m         the words of a list: its commit number first and last, zeros between
--   manifest_page m    its page
--   encoded m row      what writing it leaves of a row
--   manifest_in p      what a page says, whatever stands in it
--   is_whole p         the number in its first half is the number in its second
--   empty_manifest     what a blank page says: no commit yet
--   Fits m             each number has room in its field
use Rattle.std.specs.Prelude.{◌≡◌, ℕ, zero, suc, ◌+◌, ◌*◌, ◌/◌, ◌%◌, ◌<◌, Bool, true, false, List, [], ◌∷◌, ◌++◌, length, replicate, ◌==◌}
use Rattle.value.specs.Versions.{pick}
use Rattle.value.specs.Numbers.{number_at, bytes_of}
use Rattle.table.specs.Device.{Page, zeros, a_page}
use Rattle.table.specs.Sum.{is_sound}
use Rattle.table.specs.Stream.{sealed}
use Rattle.manifest.specs.declared.fields.Half.{Half}
use Rattle.manifest.specs.declared.fields.Half.TheVariants.{First, Second}
use Rattle.manifest.specs.declared.fields.Table.{Table}
use Rattle.manifest.specs.declared.fields.Manifest.{Manifest}

unfoldable pub word_at : ℕ → List ℕ → ℕ
word_at i p = number_at 8 (8 * i) p % 18446744073709551616

unfoldable pub words_from : ℕ → ℕ → List ℕ → List ℕ
words_from i zero p = []
words_from i (suc n) p = word_at i p ∷ words_from (suc i) n p

unfoldable pub row_of : List ℕ → List ℕ
row_of [] = []
row_of (w ∷ ws) = bytes_of 8 w ++ row_of ws

abbrev pub half_number : Half → ℕ
half_number First = 0
half_number Second = 1

abbrev pub half_of : ℕ → Half
half_of n = pick (n == 1) Second First

abbrev pub flag : Bool → ℕ
flag true = 1
flag false = 0

abbrev pub pair_of : ℕ → ℕ → ℕ
pair_of a b = a % 4294967296 + b % 4294967296 * 4294967296

-- commit number, format, number of pages, half in use, its first free page, last moment, moment below which nobody asks, weight of all that lies in tables, whether
-- that is just what has to be kept, number of tables; and of the table its first page and first page of data, size in pages and blocks, level, latest moment
abbrev pub head_of : Manifest → List ℕ
head_of m =
    m.commit ∷ 1 ∷ m.layout.pages ∷ half_number m.layout.half ∷ m.layout.free ∷ m.moments.last ∷ m.moments.low
    ∷ m.weight.all ∷ flag m.weight.exact ∷ m.tables
    ∷ pair_of m.table.start m.table.data_at ∷ pair_of m.table.size m.table.blocks ∷ m.table.level ∷ m.table.latest ∷ []

unfoldable pub words_of : Manifest → List ℕ
words_of m = head_of m ++ (replicate 48 0 ++ m.commit ∷ [])

unfoldable pub manifest_page : Manifest → Page
manifest_page m = sealed (row_of (words_of m))

abbrev pub encoded : Manifest → List ℕ → List ℕ
encoded m row = pick (length row == 512) (manifest_page m) row

abbrev pub table_in : List ℕ → Table
table_in p = record {
  start = word_at 10 p % 4294967296;
  data_at = word_at 10 p / 4294967296;
  size = word_at 11 p % 4294967296;
  blocks = word_at 11 p / 4294967296;
  level = word_at 12 p;
  latest = word_at 13 p;
}

unfoldable pub manifest_in : List ℕ → Manifest
manifest_in p = record {
  commit = word_at 0 p;
  layout = record { pages = word_at 2 p; half = half_of (word_at 3 p); free = word_at 4 p };
  moments = record { last = word_at 5 p; low = word_at 6 p };
  weight = record { all = word_at 7 p; exact = (word_at 8 p == 1) };
  tables = word_at 9 p;
  table = table_in p;
}

abbrev pub is_whole : List ℕ → Bool
is_whole p = word_at 0 p == word_at 62 p

abbrev pub empty_manifest : Manifest
empty_manifest = record {
  commit = 0;
  layout = record { pages = 0; half = First; free = 0 };
  moments = record { last = 0; low = 0 };
  weight = record { all = 0; exact = false };
  tables = 0;
  table = record { start = 0; data_at = 0; size = 0; blocks = 0; level = 0; latest = 0 };
}

pub record Fits (m : Manifest) : Type 0 where
  pub commit : m.commit < 18446744073709551616
  pub pages : m.layout.pages < 18446744073709551616
  pub free : m.layout.free < 18446744073709551616
  pub last : m.moments.last < 18446744073709551616
  pub low : m.moments.low < 18446744073709551616
  pub all : m.weight.all < 18446744073709551616
  pub tables : m.tables < 18446744073709551616
  pub start : m.table.start < 4294967296
  pub first_data : m.table.data_at < 4294967296
  pub size : m.table.size < 4294967296
  pub blocks : m.table.blocks < 4294967296
  pub level : m.table.level < 18446744073709551616
  pub latest : m.table.latest < 18446744073709551616

-- THE STATEMENT. A list that fits reads back from its page, which is whole; each list's page is a page, and carries its sum. Whatever stands in a page, what it says fits;
-- a blank one says that there is no commit. A pair is two numbers of four bytes.
pub record PageReadsBack : Type 0 where
  pub back : (m : Manifest) → Fits m → manifest_in (manifest_page m) ≡ m
  pub whole : (m : Manifest) → Fits m → is_whole (manifest_page m) ≡ true
  pub page : (m : Manifest) → a_page (manifest_page m) ≡ true
  pub sound : (m : Manifest) → is_sound (manifest_page m) ≡ true
  pub any : (p : List ℕ) → Fits (manifest_in p)
  pub pairs : (a b : ℕ) → bytes_of 8 (pair_of a b) ≡ bytes_of 4 a ++ bytes_of 4 b
  pub none : (manifest_in (zeros 512) ≡ empty_manifest) × (is_whole (zeros 512) ≡ true)
