-- One step of the running code is one step of the machine's definition.
use Rattle.std.proofs.Common.{◌≡◌, ℕ, List, length, sym, refl, subst, eq-eqb, Bor, Some, None}
use Rattle.std.proofs.lemmas.List.{length-replicate}
use Rattle.table.specs.Row.{octets}
use Rattle.store.specs.Promise.{refused, Step}
use Rattle.flushing_store.specs.Control.{control_of}
use Rattle.flushing_store.specs.Own.{went_on, paged_by, paged, heard, turned, blank_memory, own}
use Rattle.store.specs.Event.{Meant, meaning}
use Rattle.store.specs.declared.event.Event.{Event}
use Rattle.store.specs.declared.event.Event.TheVariants.{On, Write, Erase, Get, Range, First, Last, Count, Flush, Compact, Page, Next}
use Rattle.store.specs.declared.told.Told.{Told}
use Rattle.store.specs.declared.told.Told.TheVariants.{No}
use Rattle.flushing_store.specs.declared.control.Phase.{Phase}
use Rattle.flushing_store.specs.declared.control.Phase.TheVariants.{Idle, Shown, FirstList, AfterWhole, AfterTorn, Getting, Writing, Merging, Closed, Placed, Settled, Listed, Committed}
use Rattle.flushing_store.specs.declared.control.Control.{Control}
use Rattle.store.specs.Acts.{ActTold, stepped, Does}
use Rattle.std.specs.Array.{IsWholeChunk}
use Rattle.store.specs.Event.{event_of}

pub start_length : length own.start ≡ 152520
unfolding own blank_memory
start_length = length-replicate {A = ℕ} 152520 0

-- w is memory as an array
pub own_does :
    (m w : List ℕ) (kind n : ℕ) (as₁ bs : List ℕ) (r : Told) (o m₁ out₁ : List ℕ) (k : Control) (e : Event) → IsWholeChunk m w 152520 → k ≡ control_of w → Meant e (event_of kind n as₁ bs) →
    Does (turned k w (meaning e)) r o m₁ out₁ → Does (own.step m (event_of kind n as₁ bs)) r o m₁ out₁
unfolding own
own_does m w kind n as₁ bs r o m₁ out₁ k e l f q g = rw (eq-eqb (length m) 152520 l.long, sym l.same, sym f, sym q) g

-- by the phase
module _ (k : Control) (m out m₁ out₁ : List ℕ) (r : Told) where
  pub go_by : (p : Phase) → k.base.phase ≡ p → Does (went_on k m p) r out m₁ out₁ → Does (went_on k m k.base.phase) r out m₁ out₁
  go_by p e g = subst (λ (x : Phase). Does (went_on k m x) r out m₁ out₁) (sym e) g

  pub page_by : (bs q : List ℕ) (p : Phase) → k.base.phase ≡ p → q ≡ octets 512 bs → Does (paged_by k m q p) r out m₁ out₁ → Does (paged k m bs k.base.phase) r out m₁ out₁
  page_by bs q p e f g = subst (λ (x : Phase). Does (paged k m bs x) r out m₁ out₁) (sym e) (subst (λ (x : List ℕ). Does (paged_by k m x p) r out m₁ out₁) f g)

went_nowhere : (k : Control) (m : List ℕ) (p : Phase) → (p ≡ Shown → ⊥) → (p ≡ Merging → ⊥) → (p ≡ Closed → ⊥) → (p ≡ Placed → ⊥) → (p ≡ Settled → ⊥) → (p ≡ Listed → ⊥) → (p ≡ Committed → ⊥) →
    went_on k m p ≡ stepped m (refused 2)
unfolding went_on
went_nowhere k m Idle a b c d e f g = refl
went_nowhere k m Shown a b c d e f g = absurd (a refl)
went_nowhere k m FirstList a b c d e f g = refl
went_nowhere k m AfterWhole a b c d e f g = refl
went_nowhere k m AfterTorn a b c d e f g = refl
went_nowhere k m Getting a b c d e f g = refl
went_nowhere k m Writing a b c d e f g = refl
went_nowhere k m Merging a b c d e f g = absurd (b refl)
went_nowhere k m Closed a b c d e f g = absurd (c refl)
went_nowhere k m Placed a b c d e f g = absurd (d refl)
went_nowhere k m Settled a b c d e f g = absurd (e refl)
went_nowhere k m Listed a b c d e f g = absurd (f refl)
went_nowhere k m Committed a b c d e f g = absurd (g refl)

pub go_nowhere : (k : Control) (m out : List ℕ) (p : Phase) → (p ≡ Shown → ⊥) → (p ≡ Merging → ⊥) → (p ≡ Closed → ⊥) → (p ≡ Placed → ⊥) → (p ≡ Settled → ⊥) → (p ≡ Listed → ⊥) → (p ≡ Committed → ⊥) →
    Does (went_on k m p) (No 2) out m out
unfolding ActTold
go_nowhere k m out p a b c d e f g = subst (λ (s : Step). Does s (No 2) out m out) (sym (went_nowhere k m p a b c d e f g)) (refl, (refl, refl))

paged_nowhere : (k : Control) (m q : List ℕ) (p : Phase) → (p ≡ FirstList → ⊥) → (p ≡ AfterWhole → ⊥) → (p ≡ AfterTorn → ⊥) → (p ≡ Getting → ⊥) → (p ≡ Writing → ⊥) → (p ≡ Merging → ⊥) →
    paged_by k m q p ≡ stepped m (refused 2)
unfolding paged_by
paged_nowhere k m q Idle a b c d e f = refl
paged_nowhere k m q Shown a b c d e f = refl
paged_nowhere k m q FirstList a b c d e f = absurd (a refl)
paged_nowhere k m q AfterWhole a b c d e f = absurd (b refl)
paged_nowhere k m q AfterTorn a b c d e f = absurd (c refl)
paged_nowhere k m q Getting a b c d e f = absurd (d refl)
paged_nowhere k m q Writing a b c d e f = absurd (e refl)
paged_nowhere k m q Merging a b c d e f = absurd (f refl)
paged_nowhere k m q Closed a b c d e f = refl
paged_nowhere k m q Placed a b c d e f = refl
paged_nowhere k m q Settled a b c d e f = refl
paged_nowhere k m q Listed a b c d e f = refl
paged_nowhere k m q Committed a b c d e f = refl

pub page_nowhere : (k : Control) (m bs out : List ℕ) (p : Phase) → (p ≡ FirstList → ⊥) → (p ≡ AfterWhole → ⊥) → (p ≡ AfterTorn → ⊥) → (p ≡ Getting → ⊥) → (p ≡ Writing → ⊥) → (p ≡ Merging → ⊥) →
    Does (paged k m bs p) (No 2) out m out
unfolding ActTold
page_nowhere k m bs out p a b c d e f = subst (λ (s : Step). Does s (No 2) out m out) (sym (paged_nowhere k m (octets 512 bs) p a b c d e f)) (refl, (refl, refl))

-- an event that is no turn of it
other_step :
    (k : Control) (m : List ℕ) (e : Event) → ((p : ℕ) → e ≡ On p → ⊥) → ((x : Bor (List ℕ)) (s : ℕ) (v : Bor (List ℕ)) → e ≡ Write x s v → ⊥) →
    ((x : Bor (List ℕ)) (s : ℕ) → e ≡ Erase x s → ⊥) → ((x : Bor (List ℕ)) (s : ℕ) → e ≡ Get x s → ⊥) → (e ≡ Flush → ⊥) → ((x : Bor (List ℕ)) → e ≡ Page x → ⊥) → (e ≡ Next → ⊥) →
    turned k m (meaning e) ≡ stepped m (refused 2)
unfolding turned heard
other_step k m (On p) a b c d f g h = absurd (a p refl)
other_step k m (Write x s v) a b c d f g h = absurd (b x s v refl)
other_step k m (Erase x s) a b c d f g h = absurd (c x s refl)
other_step k m (Get x s) a b c d f g h = absurd (d x s refl)
other_step k m (Range x None s) a b c d f g h = refl
other_step k m (Range x (Some y) s) a b c d f g h = refl
other_step k m (First s) a b c d f g h = refl
other_step k m (Last s) a b c d f g h = refl
other_step k m (Count s) a b c d f g h = refl
other_step k m Flush a b c d f g h = absurd (f refl)
other_step k m (Compact t) a b c d f g h = refl
other_step k m (Page p) a b c d f g h = absurd (g p refl)
other_step k m Next a b c d f g h = absurd (h refl)

pub other_turn :
    (k : Control) (m out : List ℕ) (e : Event) → ((p : ℕ) → e ≡ On p → ⊥) → ((x : Bor (List ℕ)) (s : ℕ) (v : Bor (List ℕ)) → e ≡ Write x s v → ⊥) →
    ((x : Bor (List ℕ)) (s : ℕ) → e ≡ Erase x s → ⊥) → ((x : Bor (List ℕ)) (s : ℕ) → e ≡ Get x s → ⊥) → (e ≡ Flush → ⊥) → ((x : Bor (List ℕ)) → e ≡ Page x → ⊥) → (e ≡ Next → ⊥) →
    Does (turned k m (meaning e)) (No 2) out m out
unfolding ActTold
other_turn k m out e a b c d f g h = rw (other_step k m e a b c d f g h) (refl, (refl, refl))
