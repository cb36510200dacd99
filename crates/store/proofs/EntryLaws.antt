-- One step of the running code is one step of the machine's definition.
use Rattle.std.proofs.Common.{◌≡◌, ℕ, ◌≤◌, ◌<◌, true, false, List, ◌++◌, length, drop, sym, refl, arith, eq-eqb, Bor, Some, None}
use Rattle.std.proofs.lemmas.Bool.Decides.{nat_tests}
use Rattle.std.proofs.lemmas.List.{length-replicate}
use Rattle.std.specs.Array.{IsWholeChunk, IsFirstChunk}
use Rattle.store.specs.Promise.{Engine, refused}
use Rattle.store.specs.Acts.{ActTold, Does, stepped}
use Rattle.store.specs.Control.{control_of}
use Rattle.store.specs.Event.{Meant, meaning, event_fits, event_of}
use Rattle.store.specs.Own.{heard, turned, blank_memory, own}
use Rattle.store.specs.Entry.{StepSays, step_fits}
use Rattle.store.specs.declared.told.Told.{Told}
use Rattle.store.specs.declared.told.Told.TheVariants.{No}
use Rattle.store.specs.declared.event.Event.{Event}
use Rattle.store.specs.declared.event.Event.TheVariants.{On, Write, Erase, Get, Range, First, Last, Count, Flush, Compact, Page, Next}
use Rattle.store.specs.declared.control.Control.{Control}
use Rattle.store.proofs.ToldLaws.{told_in_row}

-- OF ANY MACHINE, whose memory has so many numbers
module _ (e : Engine) (size : ℕ) (long : length e.start ≡ size) (m : List ℕ) (kind n : ℕ) (as₁ bs out : List ℕ) where
  wrong_memory : (length m ≡ size → ⊥) → false ≡ step_fits e m kind as₁ bs out
  unfolding step_fits
  wrong_memory h = grind (arith, nat_tests, long)

  short_row : length out < 1280 → false ≡ step_fits e m kind as₁ bs out
  unfolding step_fits
  short_row h = grind (arith, nat_tests)

  wrong_event : false ≡ event_fits kind as₁ bs → false ≡ step_fits e m kind as₁ bs out
  unfolding step_fits
  wrong_event h = grind (arith, nat_tests)

  all_fits : length m ≡ size → 1280 ≤ length out → true ≡ event_fits kind as₁ bs → true ≡ step_fits e m kind as₁ bs out
  unfolding step_fits
  all_fits l h f = grind (arith, nat_tests, long)

  module _ (m₁ out₁ : List ℕ) where
    misfit_says : false ≡ step_fits e m kind as₁ bs out → m₁ ≡ m → out₁ ≡ out → StepSays e m kind n as₁ bs out (step_fits e m kind as₁ bs out) (No 0) m₁ out₁
    unfolding StepSays
    misfit_says h f g = rw (sym h) (refl, f, g)

    pub memory_says : (length m ≡ size → ⊥) → m₁ ≡ m → out₁ ≡ out → StepSays e m kind n as₁ bs out (step_fits e m kind as₁ bs out) (No 0) m₁ out₁
    memory_says h = misfit_says (wrong_memory h)

    pub row_says : length out < 1280 → m₁ ≡ m → out₁ ≡ out → StepSays e m kind n as₁ bs out (step_fits e m kind as₁ bs out) (No 0) m₁ out₁
    row_says h = misfit_says (short_row h)

    pub event_says : false ≡ event_fits kind as₁ bs → m₁ ≡ m → out₁ ≡ out → StepSays e m kind n as₁ bs out (step_fits e m kind as₁ bs out) (No 0) m₁ out₁
    event_says h = misfit_says (wrong_event h)

    -- o is the front of the row
    pub turn_says :
        (o : List ℕ) (r : Told) → length m ≡ size → IsFirstChunk out o 1280 → length out₁ ≡ length o → true ≡ event_fits kind as₁ bs →
        Does (e.step m (event_of kind n as₁ bs)) r o m₁ out₁ → StepSays e m kind n as₁ bs out (step_fits e m kind as₁ bs out) r m₁ (out₁ ++ drop 1280 out)
    unfolding StepSays
    turn_says o r l h whole f g = rw (sym (all_fits l h.enough f)) (g.0, told_in_row r 1280 out o out₁ h whole (e.step m (event_of kind n as₁ bs)).act g.1)

-- OF THIS MACHINE
pub start_length : length own.start ≡ 147520
unfolding own blank_memory
start_length = length-replicate {A = ℕ} 147520 0

-- w is memory as an array
pub own_does :
    (m w : List ℕ) (kind n : ℕ) (as₁ bs : List ℕ) (r : Told) (o m₁ out₁ : List ℕ) (k : Control) (e : Event) → IsWholeChunk m w 147520 → k ≡ control_of w → Meant e (event_of kind n as₁ bs) →
    Does (turned k w (meaning e)) r o m₁ out₁ → Does (own.step m (event_of kind n as₁ bs)) r o m₁ out₁
unfolding own
own_does m w kind n as₁ bs r o m₁ out₁ k e l f q g = rw (eq-eqb (length m) 147520 l.long, sym l.same, sym f, sym q) g

-- an event that is no turn of it
other_step :
    (k : Control) (m : List ℕ) (e : Event) → ((p : ℕ) → e ≡ On p → ⊥) → ((x : Bor (List ℕ)) (s : ℕ) (v : Bor (List ℕ)) → e ≡ Write x s v → ⊥) →
    ((x : Bor (List ℕ)) (s : ℕ) → e ≡ Erase x s → ⊥) → ((x : Bor (List ℕ)) (s : ℕ) → e ≡ Get x s → ⊥) → (e ≡ Next → ⊥) → turned k m (meaning e) ≡ stepped m (refused 2)
unfolding turned heard
other_step k m (On p) a b c d e = absurd (a p refl)
other_step k m (Write x s v) a b c d e = absurd (b x s v refl)
other_step k m (Erase x s) a b c d e = absurd (c x s refl)
other_step k m (Get x s) a b c d e = absurd (d x s refl)
other_step k m (Range x None s) a b c d e = refl
other_step k m (Range x (Some y) s) a b c d e = refl
other_step k m (First s) a b c d e = refl
other_step k m (Last s) a b c d e = refl
other_step k m (Count s) a b c d e = refl
other_step k m Flush a b c d e = refl
other_step k m (Compact t) a b c d e = refl
other_step k m (Page p) a b c d e = refl
other_step k m Next a b c d e = absurd (e refl)

pub other_turn :
    (k : Control) (m out : List ℕ) (e : Event) → ((p : ℕ) → e ≡ On p → ⊥) → ((x : Bor (List ℕ)) (s : ℕ) (v : Bor (List ℕ)) → e ≡ Write x s v → ⊥) →
    ((x : Bor (List ℕ)) (s : ℕ) → e ≡ Erase x s → ⊥) → ((x : Bor (List ℕ)) (s : ℕ) → e ≡ Get x s → ⊥) → (e ≡ Next → ⊥) → Does (turned k m (meaning e)) (No 2) out m out
unfolding ActTold
other_turn k m out e a b c d f = rw (other_step k m e a b c d f) (refl, (refl, refl))
