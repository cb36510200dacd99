-- A span of a stream, by the pages that it lies on.
use Rattle.std.specs.Prelude.{ℕ, ◌+◌, ◌/◌, ◌%◌, min}
use Rattle.table.specs.Writing.{wrap}
use Rattle.table.specs.declared.span.Span.{Span}

abbrev pub capped : ℕ → ℕ
capped n = min n 18446744073709551615

abbrev pub spanned : ℕ → ℕ → ℕ → Span
spanned first at len = record { page = wrap (first + at / 504); pages = capped (capped (at % 504 + len) + 503) / 504; skip = at % 504; len = len }
