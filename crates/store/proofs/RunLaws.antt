-- A run, act by act: where it stands after so many acts, and that it ends, from what each step keeps.
use Rattle.std.proofs.Common.{◌≡◌, ℕ, zero, suc, ◌<◌, List, sym, refl, subst, arith}
use Rattle.value.specs.Versions.{Version}
use Rattle.table.specs.Device.{Device}
use Rattle.store.specs.Promise.{Event, Act, read, put, settle, tells, done, refused, Step, Engine, World, Ran, one_act, runs}
use Rattle.store.specs.Account.{Next, NextStep, Account, WakeNext}

-- a run so far: still at it, or over
pub data Went (I : World → Event → List (List ℕ) → ℕ → Type 0) (End : World → List (List ℕ) → ℕ → Type 0) (r : Ran) : Type 0 where
  at_it : (ev : Event) (μ : ℕ) → I r.here ev r.told μ → r.end ≡ 1000 → Went I End r
  over : End r.here r.told r.end → Went I End r

module _ (I : World → Event → List (List ℕ) → ℕ → Type 0) (End : World → List (List ℕ) → ℕ → Type 0) where
  act_went :
      (go : World → Event → List (List ℕ) → Ran) → ((w : World) (ev : Event) (ts : List (List ℕ)) (μ : ℕ) → I w ev ts μ → Went I End (go w ev ts)) →
      (d : Device) (ts : List (List ℕ)) (m : List ℕ) (μ : ℕ) (a : Act) → Next I End d ts m μ a → Went I End (one_act go d ts m a)
  unfolding one_act
  act_went go all d ts m μ (read k) (ν, l, i) = all _ _ _ ν i
  act_went go all d ts m μ (put k p) (ν, l, b, q, i) = rw (b, q) (all _ _ _ ν i)
  act_went go all d ts m μ settle (ν, l, i) = all _ _ _ ν i
  act_went go all d ts m μ (tells t) (ν, l, b, i) = rw b (all _ _ _ ν i)
  act_went go all d ts m μ done x = over x
  act_went go all d ts m μ (refused k) (b, x) = rw b (over x)

  act_ends :
      (f : ℕ) (go : World → Event → List (List ℕ) → Ran) →
      ((w : World) (ev : Event) (ts : List (List ℕ)) (μ : ℕ) → μ < f → I w ev ts μ → End (go w ev ts).here (go w ev ts).told (go w ev ts).end) →
      (d : Device) (ts : List (List ℕ)) (m : List ℕ) (μ : ℕ) (a : Act) → μ < suc f → Next I End d ts m μ a →
      End (one_act go d ts m a).here (one_act go d ts m a).told (one_act go d ts m a).end
  unfolding one_act
  act_ends f go all d ts m μ (read k) h (ν, l, i) = all _ _ _ ν (omega arith) i
  act_ends f go all d ts m μ (put k p) h (ν, l, b, q, i) = rw (b, q) (all _ _ _ ν (omega arith) i)
  act_ends f go all d ts m μ settle h (ν, l, i) = all _ _ _ ν (omega arith) i
  act_ends f go all d ts m μ (tells t) h (ν, l, b, i) = rw b (all _ _ _ ν (omega arith) i)
  act_ends f go all d ts m μ done h x = x
  act_ends f go all d ts m μ (refused k) h (b, x) = rw b x

  module _ (e : Engine) (steps : (w : World) (ev : Event) (ts : List (List ℕ)) (μ : ℕ) → I w ev ts μ → NextStep e I End w ev ts μ) where
    -- wherever a run stands after n acts
    pub went : (n : ℕ) (w : World) (ev : Event) (ts : List (List ℕ)) (μ : ℕ) → I w ev ts μ → Went I End (runs n e w ev ts)
    unfolding runs
    went zero w ev ts μ i = at_it ev μ i refl
    went (suc n) w ev ts μ i = act_went _ (λ w₁ ev₁ ts₁ μ₁ i₁. went n w₁ ev₁ ts₁ μ₁ i₁) _ _ _ μ _ (steps w ev ts μ i)

    -- and it ends
    pub ends_at : (f : ℕ) (w : World) (ev : Event) (ts : List (List ℕ)) (μ : ℕ) → μ < f → I w ev ts μ →
        End (runs f e w ev ts).here (runs f e w ev ts).told (runs f e w ev ts).end
    unfolding runs
    ends_at zero w ev ts μ h i = absurd (omega arith)
    ends_at (suc f) w ev ts μ h i = act_ends f _ (λ w₁ ev₁ ts₁ μ₁ h₁ i₁. ends_at f w₁ ev₁ ts₁ μ₁ h₁ i₁) _ _ _ μ _ h (steps w ev ts μ i)

-- how to show a step: say what the engine's step is, by an equation, and go on with that
pub next_by :
    (e : Engine) (I : World → Event → List (List ℕ) → ℕ → Type 0) (End : World → List (List ℕ) → ℕ → Type 0) (w : World) (ev : Event) (ts : List (List ℕ)) (μ : ℕ) (x : Step) →
    e.step w.memory ev ≡ x → Next I End w.device ts x.memory μ x.act → NextStep e I End w ev ts μ
next_by e I End w ev ts μ x q g = subst (λ y. Next I End w.device ts y.memory μ y.act) (sym q) g

pub wake_by :
    (e : Engine) (A : Account) (n pages : ℕ) (vs : List Version) (t : ℕ) (w : World) (ev : Event) (μ : ℕ) (x : Step) →
    e.step w.memory ev ≡ x → WakeNext A n pages vs t w.device x.memory μ x.act →
    WakeNext A n pages vs t w.device (e.step w.memory ev).memory μ (e.step w.memory ev).act
wake_by e A n pages vs t w ev μ x q g = subst (λ y. WakeNext A n pages vs t w.device y.memory μ y.act) (sym q) g
