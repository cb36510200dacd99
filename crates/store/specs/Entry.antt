-- How a step of a whole machine is told to the world outside: events by number, acts by an enum and a lent row.
use Rattle.std.specs.Prelude.{◌≡◌, ℕ, Bool, true, false, ◌&&◌, List, length, ◌==◌, nat_le}
use Rattle.store.specs.Promise.{Engine}
use Rattle.store.specs.Acts.{Does}
use Rattle.store.specs.Event.{event_of, event_fits}
use Rattle.store.specs.declared.told.Told.{Told}
use Rattle.store.specs.declared.told.Told.TheVariants.{No}

-- one step of a machine: for memories of the machine's own length, up to 4,096 bytes in each row, and a lent row of 1,280 numbers; for others number 0 is told and nothing is changed
unfoldable pub StepSays : Engine → (memory : List ℕ) (kind n : ℕ) (as₁ bs out : List ℕ) → Bool → Told → (memory₁ out₁ : List ℕ) → Type 0
StepSays own memory kind n as₁ bs out true r memory₁ out₁ = Does (own.step memory (event_of kind n as₁ bs)) r out memory₁ out₁
StepSays own memory kind n as₁ bs out false r memory₁ out₁ = (r ≡ No 0) × (memory₁ ≡ memory) × (out₁ ≡ out)

unfoldable pub step_fits : Engine → (memory : List ℕ) (kind : ℕ) (as₁ bs out : List ℕ) → Bool
step_fits own memory kind as₁ bs out = (length memory == length own.start) && (event_fits kind as₁ bs && nat_le 1280 (length out))
