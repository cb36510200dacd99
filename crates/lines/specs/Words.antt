-- How a line is split into words: byte by byte, from place to place.
--   before_newline  a line without the byte that ends it
--   blank        a byte between words
--   comment      a line whose first byte that is no blank is #
--   turn_at      the place after a byte, and what the byte does; or what is wrong
--   end_at       what the end of the line does at a place
--   in_hand      the bytes of the word in hand, after a deed
--   so_far       the words that have ended, after a deed
--   words_of     the words of a line, each with whether it stood in quotes
use Rattle.std.specs.Prelude.{ℕ, ◌+◌, ◌-◌, ◌*◌, ◌%◌, Bool, true, false, cond, ◌&&◌, ◌||◌, List, [], ◌∷◌, ◌++◌, length, take, Some, None, Ok, Err, Option, Result, ◌==◌, nat_le, nat_lt, slice_index}
use Rattle.lines.specs.declared.flaw.Flaw.{Flaw}
use Rattle.lines.specs.declared.flaw.Flaw.TheVariants.{NotClosed, NoEscape, NoHexDigit, NoBlank}
use Rattle.lines.specs.declared.line.Place.{Place}
use Rattle.lines.specs.declared.line.Place.TheVariants.{Between, Plain, Quoted, Escape, HighDigit, LowDigit, Closed}
use Rattle.lines.specs.declared.line.Deed.{Deed}
use Rattle.lines.specs.declared.line.Deed.TheVariants.{Pass, Take, End}
use Rattle.spelling.specs.Word.{Text}

abbrev pub before_newline : List ℕ → List ℕ
before_newline line = cond (nat_lt 0 (length line) && slice_index line (length line - 1) == 10) (take (length line - 1) line) line

abbrev pub blank : ℕ → Bool
blank b = b == 32 || (b == 9 || b == 13)

unfoldable pub comment : List ℕ → Bool
comment [] = false
comment (b ∷ line) = cond (blank b) (comment line) (b == 35)

abbrev pub from_to : ℕ → ℕ → ℕ → Bool
from_to a e b = nat_le a b && nat_le b e

abbrev pub hex_value : ℕ → Option ℕ
hex_value b = cond (from_to 48 57 b) (Some (b - 48)) (cond (from_to 97 102 b) (Some (b - 97 + 10)) (cond (from_to 65 70 b) (Some (b - 65 + 10)) None))

abbrev pub Step : Type 0
Step = Result (Place × Deed) Flaw

abbrev pub between_at : ℕ → Place × Deed
between_at b = cond (blank b) (Between, Pass) (cond (b == 34) (Quoted, Pass) (Plain, Take b))

abbrev pub plain_at : ℕ → Place × Deed
plain_at b = cond (blank b) (Between, End false) (Plain, Take b)

abbrev pub quoted_at : ℕ → Place × Deed
quoted_at b = cond (b == 34) (Closed, End true) (cond (b == 92) (Escape, Pass) (Quoted, Take b))

abbrev pub escape_at : ℕ → Step
escape_at b =
    cond (b == 34) (Ok (Quoted, Take 34)) (cond (b == 92) (Ok (Quoted, Take 92)) (cond (b == 110) (Ok (Quoted, Take 10))
    (cond (b == 116) (Ok (Quoted, Take 9)) (cond (b == 120) (Ok (HighDigit, Pass)) (Err NoEscape)))))

abbrev pub high_step : Option ℕ → Step
high_step (Some high) = Ok (LowDigit high, Pass)
high_step None = Err NoHexDigit

abbrev pub low_step : ℕ → Option ℕ → Step
low_step high (Some low) = Ok (Quoted, Take (high % 16 * 16 + low))
low_step high None = Err NoHexDigit

abbrev pub closed_at : ℕ → Step
closed_at b = cond (blank b) (Ok (Between, Pass)) (Err NoBlank)

abbrev pub turn_at : Place → ℕ → Step
turn_at Between b = Ok (between_at b)
turn_at Plain b = Ok (plain_at b)
turn_at Quoted b = Ok (quoted_at b)
turn_at Escape b = escape_at b
turn_at HighDigit b = high_step (hex_value b)
turn_at (LowDigit high) b = low_step high (hex_value b)
turn_at Closed b = closed_at b

abbrev pub end_at : Place → Result Deed Flaw
end_at Between = Ok Pass
end_at Plain = Ok (End false)
end_at Quoted = Err NotClosed
end_at Escape = Err NotClosed
end_at HighDigit = Err NotClosed
end_at (LowDigit high) = Err NotClosed
end_at Closed = Ok Pass

abbrev pub in_hand : Deed → List ℕ → List ℕ
in_hand Pass bs = bs
in_hand (Take b) bs = bs ++ b ∷ []
in_hand (End quoted) bs = []

abbrev pub so_far : Deed → List ℕ → List Text → List Text
so_far Pass bs ws = ws
so_far (Take b) bs ws = ws
so_far (End quoted) bs ws = ws ++ (quoted, bs) ∷ []

abbrev pub Texts : Type 0
Texts = Result (List Text) Flaw

abbrev pub stepped : Step → (Place → Deed → Texts) → Texts
stepped (Ok s) go = go s.0 s.1
stepped (Err e) go = Err e

abbrev pub ended : Result Deed Flaw → List ℕ → List Text → Texts
ended (Ok d) bs ws = Ok (so_far d bs ws)
ended (Err e) bs ws = Err e

unfoldable pub words_from : Place → List ℕ → List Text → List ℕ → Texts
words_from p bs ws [] = ended (end_at p) bs ws
words_from p bs ws (b ∷ line) = stepped (turn_at p b) (λ q d. words_from q (in_hand d bs) (so_far d bs ws) line)

abbrev pub words_of : List ℕ → Texts
words_of line = words_from Between [] [] line
