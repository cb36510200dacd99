-- Events by number, and as the code reads them.
--   event_of k n as bs     the event with number k
--   event_fits k as bs     it is taken: its number is known, and its rows are not too long
--   Meant e ev             e is ev, as the code reads it
use Rattle.std.specs.Prelude.{◌≡◌, ℕ, Bool, ◌&&◌, List, [], ◌∷◌, length, Some, None, ◌==◌, nat_le}
use Rattle.value.specs.Versions.{pick}
use Rattle.store.specs.House.{write, erase, get, range, first_key, last_key, count, flush, compact}
use Rattle.store.specs.Promise.{Event, on, said, page, next}
use Rattle.store.specs.declared.event.Event.{Event as Read}
use Rattle.store.specs.declared.event.Event.TheVariants.{On, Write, Erase, Get, Range, First, Last, Count, Flush, Compact, Page, Next}

-- 0 power, of so many pages; 1 write key, moment, value; 2 erase; 3 get; 4 range, from a key on; 5 range, up to another; 6 first, 7 last, 8 count, at a moment; 9 flush;
-- 10 compact; 11 a page; 12 go on
unfoldable pub event_of : ℕ → ℕ → List ℕ → List ℕ → Event
event_of k n as₁ bs =
    pick (k == 0) (on n) (pick (k == 1) (said (write as₁ n bs)) (pick (k == 2) (said (erase as₁ n)) (pick (k == 3) (said (get as₁ n))
    (pick (k == 4) (said (range as₁ [] n)) (pick (k == 5) (said (range as₁ (bs ∷ []) n)) (pick (k == 6) (said (first_key n)) (pick (k == 7) (said (last_key n))
    (pick (k == 8) (said (count n)) (pick (k == 9) (said flush) (pick (k == 10) (said (compact n)) (pick (k == 11) (page bs) next)))))))))))

-- an event that is taken: a number that is known, and up to 4,096 bytes in each row
abbrev pub event_fits : ℕ → (as₁ bs : List ℕ) → Bool
event_fits kind as₁ bs = nat_le kind 12 && (nat_le (length as₁) 4096 && nat_le (length bs) 4096)

abbrev pub meaning : Read → Event
meaning (On pages) = on pages
meaning (Write k m v) = said (write k.now m v.now)
meaning (Erase k m) = said (erase k.now m)
meaning (Get k s) = said (get k.now s)
meaning (Range a None s) = said (range a.now [] s)
meaning (Range a (Some b) s) = said (range a.now (b.now ∷ []) s)
meaning (First s) = said (first_key s)
meaning (Last s) = said (last_key s)
meaning (Count s) = said (count s)
meaning Flush = said flush
meaning (Compact t) = said (compact t)
meaning (Page p) = page p.now
meaning Next = next

abbrev pub Meant : Read → Event → Type 0
Meant e ev = meaning e ≡ ev
