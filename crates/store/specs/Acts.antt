-- How an act is told to the world outside: by an enum, and a lent row of numbers.
--   stepped m a           a step: what memory is then, and the act
--   Does s r out m out₁   the code does this step: memory is then m, and the row out₁
--   Quiet s r m           the same of a step that leaves the row alone
use Rattle.std.specs.Prelude.{◌≡◌, ℕ, List, ◌++◌, length, drop}
use Rattle.store.specs.Promise.{Step, Act, read, put, settle, tells, done, refused}
use Rattle.store.specs.declared.told.Told.{Told}
use Rattle.store.specs.declared.told.Told.TheVariants.{Read, Put, Settle, Tells, Done, No}

unfoldable pub ActTold : Act → Told → (out out₁ : List ℕ) → Type 0
ActTold (read k) r out out₁ = (r ≡ Read k) × (out₁ ≡ out)
ActTold (put k p) r out out₁ = (r ≡ Put k) × (out₁ ≡ p ++ drop (length p) out)
ActTold settle r out out₁ = (r ≡ Settle) × (out₁ ≡ out)
ActTold (tells t) r out out₁ = (r ≡ Tells (length t)) × (out₁ ≡ t ++ drop (length t) out)
ActTold done r out out₁ = (r ≡ Done) × (out₁ ≡ out)
ActTold (refused k) r out out₁ = (r ≡ No k) × (out₁ ≡ out)

abbrev pub stepped : List ℕ → Act → Step
stepped m a = record { memory = m; act = a }

abbrev pub Does : Step → Told → (out m₁ out₁ : List ℕ) → Type 0
Does s r out m₁ out₁ = (m₁ ≡ s.memory) × ActTold s.act r out out₁

abbrev pub Quiet : Step → Told → List ℕ → Type 0
Quiet s r m₁ = (m₁ ≡ s.memory) × ((out : List ℕ) → ActTold s.act r out out)
