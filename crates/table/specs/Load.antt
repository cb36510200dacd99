-- Reading a span of a stream a page at a time.
--   wanted l           the page that is wanted next, if one is
--   placed_at n xs row the row with 504 numbers behind those that came before them: at most four times, in a row of 2,016 or more
--   placed n p row     the row with a page's payload behind those that came before it: at most four, in a row of 2,016 bytes or more
--   took l             a page more has come
use Rattle.std.specs.Prelude.{◌≡◌, ℕ, ◌+◌, ◌*◌, ◌<◌, ◌≤◌, ◌&&◌, List, length, take, Some, None, Option, nat_le, nat_lt}
use Rattle.value.specs.Versions.{pick}
use Rattle.value.specs.Numbers.{put_at}
use Rattle.table.specs.Device.{Page, page_at}
use Rattle.table.specs.Stream.{payload, payloads}
use Rattle.table.specs.Span.{spanned}
use Rattle.table.specs.Writing.{wrap}
use Rattle.table.specs.declared.load.Load.{Load}

abbrev pub wanted : Load → Option ℕ
wanted l = pick (nat_lt l.got l.span.pages) (Some (wrap (l.span.page + l.got))) None

unfoldable pub placed_at : {A : Type 0} → ℕ → List A → List A → List A
placed_at got xs row = pick (nat_lt got 4 && nat_le 2016 (length row)) (put_at (504 * got) xs row) row

abbrev pub placed : ℕ → List ℕ → List ℕ → List ℕ
placed got p row = placed_at got (payload p) row

abbrev pub took : Load → Load
took l = record { span = l.span; got = wrap (l.got + 1) }

-- THE STATEMENTS. A block is on at most four pages, a head on at most two.
abbrev pub SpansShort : Type 0
SpansShort = (first at len : ℕ) → (len ≤ 1512 → (spanned first at len).pages ≤ 4) × (len ≤ 278 → (spanned first at len).pages ≤ 2)

-- Page after page the row's front is the payloads of the pages.
abbrev pub LoadGoesOn : Type 0
LoadGoesOn =
    (l : Load) (ps : List Page) (row : List ℕ) → l.got < 4 → 2016 ≤ length row → l.span.page + l.got < 18446744073709551616 →
    take (504 * l.got) row ≡ payloads ps l.span.page l.got →
    take (504 * (l.got + 1)) (placed l.got (page_at ps (l.span.page + l.got)) row) ≡ payloads ps l.span.page (l.got + 1)
