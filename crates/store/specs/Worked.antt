-- A worked example: what is said one after the other, power that goes among it, and what is answered.
--   Said        a command, or power goes and comes back
--   answered    how the definitions answer: a refusal's number (0 for done), and the rows that are shown
--   played      the answers to all that is said, one after the other
--   left_by     the house at the end
use Rattle.std.specs.Prelude.{◌≡◌, ℕ, false, List, [], ◌∷◌, codes, ◌==◌}
use Prim.Native.String.{String}
use Rattle.value.specs.Versions.{pick, each, version}
use Rattle.store.specs.House.{House, house, Command, write, erase, get, range, last_key, count, flush, compact, refusal, after, shown_as, shows, needed, stopped_house}

pub data Said : Type 0 where
  command : Command → Said
  power : Said

pub record Answer : Type 0 where
  pub refused : ℕ
  pub rows : List (List ℕ)

abbrev pub answered : House → Said → Answer
answered h (command c) = record { refused = refusal h c; rows = pick (refusal h c == 0) (shows h c) [] }
answered h power = record { refused = 0; rows = [] }

abbrev pub then : House → Said → House
then h (command c) = pick (refusal h c == 0) (after h c) h
then h power = stopped_house h

abbrev pub played : House → List Said → List Answer
played h [] = []
played h (s ∷ ss) = answered h s ∷ played (then h s) ss

abbrev pub left_by : House → List Said → House
left_by h [] = h
left_by h (s ∷ ss) = left_by (then h s) ss

-- what is said, and what is answered, as the table has them
pub record Line : Type 0 where
  pub said : Said
  pub answer : Answer

abbrev done : Command → Line
done c = record { said = command c; answer = record { refused = 0; rows = [] } }

abbrev shown : Command → List (List ℕ) → Line
shown c rs = record { said = command c; answer = record { refused = 0; rows = rs } }

abbrev no : Command → ℕ → Line
no c r = record { said = command c; answer = record { refused = r; rows = [] } }

abbrev row : String → String → List ℕ
row k v = shown_as (version (codes k) 0 false (codes v))

abbrev pub worked : List Line
worked =
    done (write (codes "mole") 3 (codes "12"))
    ∷ done (write (codes "mole") 5 (codes "14"))
    ∷ shown (get (codes "mole") 5) (row "mole" "12" ∷ [])
    ∷ shown (get (codes "mole") 6) (row "mole" "14" ∷ [])
    ∷ shown (get (codes "mole") 3) []
    ∷ no (write (codes "mole") 5 (codes "15")) 3
    ∷ no (write (codes "pier") 4 (codes "1")) 3
    ∷ done (write (codes "pier") 5 (codes "1"))
    ∷ done (erase (codes "mole") 7)
    ∷ shown (range (codes "m") [] 8) (row "pier" "1" ∷ [])
    ∷ shown (range (codes "m") (codes "n" ∷ []) 7) (row "mole" "14" ∷ [])
    ∷ done flush
    ∷ done (write (codes "mole") 8 (codes "9"))
    ∷ record { said = power; answer = record { refused = 0; rows = [] } }
    ∷ shown (get (codes "mole") 9) []
    ∷ done (write (codes "mole") 8 (codes "9"))
    ∷ done (compact 8)
    ∷ no (get (codes "mole") 6) 4
    ∷ shown (get (codes "mole") 8) []
    ∷ shown (get (codes "mole") 9) (row "mole" "9" ∷ [])
    ∷ shown (count 9) ((2 ∷ []) ∷ [])
    ∷ shown (last_key 9) (row "pier" "1" ∷ [])
    ∷ []

abbrev pub new_house : House
new_house = house [] [] 0 0

-- THE TABLE: the definitions answer so, and what has to be kept at the end are pier at 5 and mole at 8
abbrev pub WorkedOut : Type 0
WorkedOut =
    (played new_house (each (λ l. l.said) worked) ≡ each (λ l. l.answer) worked)
    × (needed (left_by new_house (each (λ l. l.said) worked)) ≡ version (codes "pier") 5 false (codes "1") ∷ version (codes "mole") 8 false (codes "9") ∷ [])
