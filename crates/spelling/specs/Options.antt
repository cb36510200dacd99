-- What the shell is called with, and how many pages a device may have.
--   fits_size    64 to 1,048,576 pages
--   pages_of     the pages in so many bytes
--   with_word    options with one word more
--   without_plus a word without the plus that stands before a digit
use Rattle.std.specs.Prelude.{ℕ, ◌/◌, ◌%◌, Bool, true, false, cond, ◌&&◌, List, [], ◌∷◌, Some, None, codes, Option, ◌==◌, nat_le}
use Rattle.std.specs.Str.{bytes_eq}
use Rattle.spelling.specs.declared.options.Options.{Options}
use Rattle.spelling.specs.Spelling.{number_of}

abbrev pub fits_size : ℕ → Bool
fits_size n = nat_le 64 n && nat_le n 1048576

abbrev pub pages_of : ℕ → Option ℕ
pages_of n = cond (n % 512 == 0 && fits_size (n / 512)) (Some (n / 512)) None

abbrev pub usual : Options
usual = record { pages = 8192; with_acts = false }

abbrev pub sized : Options → Option ℕ → Option Options
sized o None = None
sized o (Some n) = cond (fits_size n) (Some (record { pages = n; with_acts = o.with_acts })) None

abbrev pub with_word : Options → List ℕ → Option Options
with_word o w = cond (bytes_eq w (codes "--acts")) (Some (record { pages = o.pages; with_acts = true })) (sized o (number_of w))

abbrev pub without_plus : List ℕ → List ℕ
without_plus [] = []
without_plus (b ∷ []) = b ∷ []
without_plus (b ∷ d ∷ bs) = cond (b == 43 && (nat_le 48 d && nat_le d 57)) (d ∷ bs) (b ∷ d ∷ bs)
