-- The main promise follows from steps that are right: power-on that is cut short again and again, whole commands, commands cut by a stop, and any list of them.
use Rattle.std.proofs.Common.{◌≡◌, ℕ, suc, ◌+◌, ◌<◌, ◌≤◌, Bool, true, false, ◌⊎◌, List, [], ◌∷◌, ◌++◌, length, sym, refl, ◌∙◌, subst, inl, inr, append-nil, arith}
use borrow.Author.Tests.{both_ways}
use Rattle.value.specs.Rising.{last_moment}
use Rattle.value.specs.Versions.{every, Version}
use Rattle.value.proofs.TestLaws.{and_left_of, and_right_of}
use Rattle.value.proofs.KeyLaws.{same_refl}
use Rattle.table.specs.Device.{Device, Page, blank}
use Rattle.store.specs.House.{House, Command, write, erase, get, range, first_key, last_key, count, flush, compact, refusal, after, May, RefusedToo, stopped_house, small_command, shows}
use Rattle.store.specs.Promise.{Event, on, said, Act, read, put, settle, tells, done, refused, Engine, World, Ran, Steady, Cut, Item, whole, stops, proper, waking, again, Wakes, begins_rows, Right, Whole}
use Rattle.store.specs.Account.{Next, NextStep, Account, rested, resting, leavings, WakeNext, Ends, unknown, rejected, no_room, finished, TellsRight, nothing, part, StopLeaves, undone, done_already, most_commands, Obligations, tested, StepsSuffice}
use Rattle.store.proofs.RunLaws.{Went, at_it, over, went, ends_at}

-- what was told is a beginning of what would have been
begins_part : (xs ys : List (List ℕ)) → begins_rows xs (xs ++ ys) ≡ true
unfolding begins_rows
begins_part [] ys = refl
begins_part (x ∷ xs) ys = rw (same_refl x, begins_part xs ys)

begins_nothing : (ys : List (List ℕ)) → begins_rows [] ys ≡ true
unfolding begins_rows
begins_nothing ys = refl

-- 7 and 8 are not the end of a command that is done
too_positive : (h : House) (pages : ℕ) (c : Command) → RefusedToo h pages c 0 → ⊥
unfolding RefusedToo
too_positive h pages (write k m v) x = omega arith
too_positive h pages (erase k m) x = omega arith
too_positive h pages (get k s) x = omega arith
too_positive h pages (range a b s) x = omega arith
too_positive h pages (first_key s) x = omega arith
too_positive h pages (last_key s) x = omega arith
too_positive h pages (count s) x = omega arith
too_positive h pages flush x = omega arith
too_positive h pages (compact t) x = omega arith

module _ (known : Command → Bool) (e : Engine) (A : Account) (O : Obligations known e A) where
  abbrev WakeIn : (n pages : ℕ) → List Version → ℕ → World → Event → List (List ℕ) → ℕ → Type 0
  WakeIn n pages vs t w ev ts μ = (ts ≡ []) × A.Waking n pages vs t w ev μ

  abbrev WakeEnd : (n pages : ℕ) → List Version → ℕ → World → List (List ℕ) → ℕ → Type 0
  WakeEnd n pages vs t w ts r = (r ≡ 0) × (ts ≡ []) × A.Idle n pages (rested vs t) w

  wake_act :
      (n pages : ℕ) (vs : List Version) (t : ℕ) (d : Device) (ts : List (List ℕ)) (m : List ℕ) (μ : ℕ) (a : Act) → ts ≡ [] →
      WakeNext A n pages vs t d m μ a → Next (WakeIn n pages vs t) (WakeEnd n pages vs t) d ts m μ a
  wake_act n pages vs t d ts m μ (read k) z (ν, l, i) = (ν, l, (z, i))
  wake_act n pages vs t d ts m μ (put k p) z (ν, l, b, q, i) = (ν, l, b, q, (z, i))
  wake_act n pages vs t d ts m μ settle z (ν, l, i) = (ν, l, (z, i))
  wake_act n pages vs t d ts m μ (tells s) z x = absurd x
  wake_act n pages vs t d ts m μ done z x = (refl, z, x)
  wake_act n pages vs t d ts m μ (refused k) z x = absurd x

  wake_step :
      (n pages : ℕ) (vs : List Version) (t : ℕ) → n ≤ most_commands → (w : World) (ev : Event) (ts : List (List ℕ)) (μ : ℕ) → WakeIn n pages vs t w ev ts μ →
      NextStep e (WakeIn n pages vs t) (WakeEnd n pages vs t) w ev ts μ
  wake_step n pages vs t b w ev ts μ i = wake_act n pages vs t _ ts _ μ _ i.0 (O.wakes_on n pages vs t w ev μ b i.1)

  -- a stop at any act of waking leaves what was there
  went_waking :
      (n pages : ℕ) (vs : List Version) (t : ℕ) (r : Ran) → n ≤ most_commands → Went (WakeIn n pages vs t) (WakeEnd n pages vs t) r →
      (cs : List ℕ) → A.Durable n pages vs t (leavings r.here cs)
  went_waking n pages vs t r b (at_it ev μ i z) cs = O.waking_stops n pages vs t r.here ev μ b i.1 cs
  went_waking n pages vs t r b (over x) cs = O.idle_stops n pages (rested vs t) r.here b x.2 cs

  -- power that comes again and again, and at last stays
  wakes :
      (n pages : ℕ) (vs : List Version) (t : ℕ) (ks : List Cut) (ps : List Page) → n ≤ most_commands → A.Durable n pages vs t ps →
      (w₁ : World) × Wakes e (again e (resting e ps) ks) w₁ × A.Idle n pages (rested vs t) w₁
  unfolding again Wakes
  wakes n pages vs t [] ps b d =
      let (μ, i) = O.wakes_up n pages vs t ps b d in
      let x = ends_at (WakeIn n pages vs t) (WakeEnd n pages vs t) e (wake_step n pages vs t b) (suc μ) (resting e ps) (on (length ps)) [] μ (omega arith) (refl, i) in
      ((waking e (suc μ) (resting e ps)).here, (suc μ, x.0, x.1, refl), x.2)
  wakes n pages vs t (k ∷ ks) ps b d =
      let (μ, i) = O.wakes_up n pages vs t ps b d in
      let x = went (WakeIn n pages vs t) (WakeEnd n pages vs t) e (wake_step n pages vs t b) k.acts (resting e ps) (on (length ps)) [] μ (refl, i) in
      wakes n pages vs t ks (leavings (waking e k.acts (resting e ps)).here k.left) b (went_waking n pages vs t _ b x k.left)

  -- A WHOLE COMMAND
  ended :
      (n pages : ℕ) (h : House) (c : Command) (w : World) (ts : List (List ℕ)) (r : ℕ) → Ends known A n pages h c w ts r →
      (h₁ : House) × ((known c ≡ false → (r ≡ 2) × (ts ≡ []) × (h₁ ≡ h)) × (known c ≡ true → May pages h c r ts h₁)) × A.Idle (suc n) pages h₁ w
  unfolding May
  ended n pages h c w ts r (unknown u a b i) = (h, ((λ _. (a, b, refl)), (λ v. absurd (both_ways _ u v))), i)
  ended n pages h c w ts r (rejected v p a b i) =
      (h, ((λ u. absurd (both_ways _ u v)), (λ _. ((λ _. (a, b, refl)), (λ z. absurd (omega arith))))), i)
  ended n pages h c w ts r (no_room v z a b i) =
      (h, ((λ u. absurd (both_ways _ u v)), (λ _. ((λ p. absurd (omega arith)), (λ _. inr (a, b, refl))))), i)
  ended n pages h c w ts r (finished v z a b i) =
      (after h c, ((λ u. absurd (both_ways _ u v)), (λ _. ((λ p. absurd (omega arith)), (λ _. inl (a, b, refl))))), i)

  -- A STOP IN A COMMAND: what is told, and what is left
  abbrev CutRight : (n pages : ℕ) → House → Command → Ran → List ℕ → Type 0
  CutRight n pages h c r cs =
      (vs : List Version) × (t : ℕ) × A.Durable (suc n) pages vs t (leavings r.here cs)
      × (known c ≡ false → r.told ≡ [])
      × (known c ≡ true → 0 < refusal h c → r.told ≡ [])
      × (known c ≡ true → refusal h c ≡ 0 → begins_rows r.told (shows h c) ≡ true)
      × ((rested vs t ≡ stopped_house h) ⊎ ((known c ≡ true) × (refusal h c ≡ 0) × (rested vs t ≡ stopped_house (after h c))))
      × (known c ≡ true → refusal h c ≡ 0 → r.end ≡ 0 → (rested vs t ≡ stopped_house (after h c)) × (r.told ≡ shows h c))

  told_none : (h : House) (c : Command) (ts : List (List ℕ)) → TellsRight known h c ts → known c ≡ false → ts ≡ []
  told_none h c ts (nothing b) u = b
  told_none h c ts (part v z rest q) u = absurd (both_ways _ u v)

  told_refused : (h : House) (c : Command) (ts : List (List ℕ)) → TellsRight known h c ts → known c ≡ true → 0 < refusal h c → ts ≡ []
  told_refused h c ts (nothing b) v p = b
  told_refused h c ts (part v z rest q) v₁ p = absurd (omega arith)

  told_part : (h : House) (c : Command) (ts : List (List ℕ)) → TellsRight known h c ts → known c ≡ true → refusal h c ≡ 0 → begins_rows ts (shows h c) ≡ true
  told_part h c ts (nothing b) v z = rw b (begins_nothing (shows h c))
  told_part h c ts (part v z rest q) v₁ z₁ = rw q (begins_part ts rest)

  cut_undone :
      (n pages : ℕ) (h : House) (c : Command) (r : Ran) (cs : List ℕ) → TellsRight known h c r.told →
      A.Durable (suc n) pages h.safe h.low (leavings r.here cs) →
      (known c ≡ true → refusal h c ≡ 0 → r.end ≡ 0 → ⊥) → CutRight n pages h c r cs
  cut_undone n pages h c r cs s d not =
      (h.safe, h.low, d, told_none h c _ s, told_refused h c _ s, told_part h c _ s, inl refl, (λ v z x. absurd (not v z x)))

  cut_stopped :
      (n pages : ℕ) (h : House) (c : Command) (r : Ran) (cs : List ℕ) → TellsRight known h c r.told →
      StopLeaves known A n pages h c (leavings r.here cs) → r.end ≡ 1000 → CutRight n pages h c r cs
  cut_stopped n pages h c r cs s (undone d) x = cut_undone n pages h c r cs s d (λ v z y. omega arith)
  cut_stopped n pages h c r cs s (done_already v z d) x =
      ((after h c).safe, (after h c).low, d, told_none h c _ s, told_refused h c _ s, told_part h c _ s, inr (v, z, refl), (λ v₁ z₁ y. absurd (omega arith)))

  cut :
      (n pages : ℕ) (h : House) (c : Command) (r : Ran) → n < most_commands → Went (A.Busy n pages h c) (Ends known A n pages h c) r → (cs : List ℕ) →
      CutRight n pages h c r cs
  cut n pages h c r l (at_it ev μ i x) cs =
      cut_stopped n pages h c r cs ((O.serves c).tells_right n pages h _ ev _ μ l i) ((O.serves c).stop_leaves n pages h _ ev _ μ l i cs) x
  cut n pages h c r l (over (unknown u a b i)) cs =
      cut_undone n pages h c r cs (nothing b) (O.idle_stops (suc n) pages h _ (omega arith) i cs) (λ v z x. both_ways _ u v)
  cut n pages h c r l (over (rejected v p a b i)) cs =
      cut_undone n pages h c r cs (nothing b) (O.idle_stops (suc n) pages h _ (omega arith) i cs) (λ v z x. omega arith)
  cut n pages h c r l (over (no_room v z a b i)) cs =
      cut_undone n pages h c r cs (nothing b) (O.idle_stops (suc n) pages h _ (omega arith) i cs) (λ v z x. too_positive h pages c (subst (RefusedToo h pages c) x a))
  cut n pages h c r l (over (finished v z a b i)) cs =
      let s : TellsRight known h c r.told = part v z [] (sym b ∙ sym (append-nil r.told)) in (
        (after h c).safe,
        (after h c).low,
        O.idle_stops (suc n) pages (after h c) _ (omega arith) i cs,
        told_none h c _ s,
        told_refused h c _ s,
        told_part h c _ s,
        inr (v, z, refl),
        (λ v₁ z₁ y. (refl, b)),
      )

  -- ALL COMMANDS
  right :
      (pages : ℕ) (is : List Item) (n : ℕ) (h : House) (w : World) → n + length is ≤ most_commands → every proper is ≡ true → A.Idle n pages h w →
      Right known pages e w h is
  unfolding Right every
  right pages [] n h w l g i = refl
  right pages (whole c ∷ is) n h w l g i =
      let bound : n < most_commands = omega arith in
      let (μ, b) = (O.serves c).hears n pages h w bound (and_left_of (small_command c) (every proper is) g) i in
      let x = ends_at (A.Busy n pages h c) (Ends known A n pages h c) e (λ w₁ ev₁ ts₁ μ₁. (O.serves c).works_on n pages h w₁ ev₁ ts₁ μ₁ bound) (suc μ) w (said c) [] μ (omega arith) b in
      let (h₁, f, i₁) = ended n pages h c _ _ _ x in
      (suc μ, h₁, f, right pages is (suc n) h₁ _ (omega arith) (and_right_of (small_command c) (every proper is) g) i₁)
  right pages (stops c k ks ∷ is) n h w l g i =
      let bound : n < most_commands = omega arith in
      let (μ, b) = (O.serves c).hears n pages h w bound (and_left_of (small_command c) (every proper is) g) i in
      let x = went (A.Busy n pages h c) (Ends known A n pages h c) e (λ w₁ ev₁ ts₁ μ₁. (O.serves c).works_on n pages h w₁ ev₁ ts₁ μ₁ bound) k.acts w (said c) [] μ b in
      let (vs, t, d, f₁, f₂, f₃, f₄, f₅) = cut n pages h c _ bound x k.left in
      let (w₁, wk, i₁) = wakes (suc n) pages vs t ks _ (omega arith) d in
      (rested vs t, w₁, wk, f₁, f₂, f₃, f₄, f₅, right pages is (suc n) (rested vs t) w₁ (omega arith) (and_right_of (small_command c) (every proper is) g) i₁)

  pub whole_of : Steady e → Whole known e
  unfolding Whole last_moment
  whole_of st = (
    st,
    λ pages ks is lo hi l g.
        let (w₁, wk, i) = wakes 0 pages [] 0 ks (blank pages) (omega arith) (O.fresh pages lo hi) in
        (w₁, wk, right pages is 0 (rested [] 0) w₁ (omega arith) g i),
  )

pub steps_suffice : StepsSuffice
steps_suffice known e T O st = whole_of known e (tested T) O st
