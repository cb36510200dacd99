-- A stream of bytes over the payloads of pages that follow each other.
--   payload p             a page's first 504 bytes; where it is shorter, zeros stand for the rest
--   sealed bs             the page with this payload, and its sum
--   payloads ps first n   the payloads of n pages, from one on
--   holds ps first bs     these pages hold these bytes, from page `first` on
--   page_of bs i          page number i of a stream
use Rattle.std.specs.Prelude.{◌≡◌, ℕ, zero, suc, ◌+◌, ◌*◌, ◌/◌, ◌%◌, ◌<◌, ◌≤◌, true, List, [], ◌++◌, length, take, drop, replicate, ◌==◌}
use Rattle.value.specs.Versions.{pick}
use Rattle.value.specs.Numbers.{bytes_of, all_bytes}
use Rattle.table.specs.Device.{Page, page_at, a_page}
use Rattle.table.specs.Sum.{page_sum, is_sound}
use Rattle.table.specs.Sizes.{page_count}

unfoldable pub payload : List ℕ → List ℕ
payload p = take 504 (p ++ replicate 504 0)

unfoldable pub sealed : List ℕ → Page
sealed bs = payload bs ++ bytes_of 8 (page_sum (payload bs))

-- a page of 512 bytes filled so; a row of another length stays as it is
unfoldable pub filled : List ℕ → List ℕ → List ℕ
filled bs page = pick (length page == 512) (sealed bs) page

unfoldable pub payloads : List Page → ℕ → ℕ → List ℕ
payloads ps first zero = []
payloads ps first (suc n) = payload (page_at ps first) ++ payloads ps (suc first) n

unfoldable pub page_of : List ℕ → ℕ → Page
page_of bs i = sealed (drop (504 * i) bs)

abbrev pub Holds : List Page → ℕ → List ℕ → Type 0
Holds ps first bs = take (length bs) (payloads ps first (page_count (length bs))) ≡ bs

-- THE STATEMENTS. Pages that were put are pages: 512 bytes, and the right sum.
abbrev pub PagesSound : Type 0
PagesSound = (bs : List ℕ) (i : ℕ) → all_bytes bs ≡ true → (a_page (page_of bs i) ≡ true) × (is_sound (page_of bs i) ≡ true)

-- The stream comes back from its pages.
abbrev pub StreamBack : Type 0
StreamBack =
    (ps : List Page) (first : ℕ) (bs : List ℕ) → ((i : ℕ) → i < page_count (length bs) → page_at ps (first + i) ≡ page_of bs i) → Holds ps first bs

-- Any span of it is read from the few pages that it lies on.
abbrev pub SpanRead : Type 0
SpanRead =
    (ps : List Page) (first : ℕ) (bs : List ℕ) (at len n : ℕ) → Holds ps first bs → at + len ≤ length bs → at % 504 + len ≤ 504 * n →
    take len (drop (at % 504) (payloads ps (first + at / 504) n)) ≡ take len (drop at bs)

-- What happens to other pages does not matter.
abbrev pub HoldsElsewhere : Type 0
HoldsElsewhere =
    (ps qs : List Page) (first : ℕ) (bs : List ℕ) → ((i : ℕ) → i < page_count (length bs) → page_at qs (first + i) ≡ page_at ps (first + i)) → Holds ps first bs → Holds qs first bs
