-- A command that is not known is refused with 2, and nothing changes.
use Rattle.std.proofs.Common.{◌≡◌, ℕ, suc, true, false, List, refl, ap, ◌∙◌}
use Rattle.value.proofs.TestLaws.{clash}
use Rattle.store.specs.House.{House, Command, write, erase, get, range, first_key, last_key, count, flush, compact, core}
use Rattle.store.specs.Promise.{Event, said, refused, World}
use Rattle.store.specs.Account.{NextStep, leavings, TellsRight, nothing, StopLeaves, undone, Ends, unknown, Serves}
use Rattle.store.specs.Acts.{stepped}
use Rattle.flushing_store.specs.Control.{control_of}
use Rattle.flushing_store.specs.Own.{heard, turned, own}
use Rattle.flushing_store.specs.declared.control.Phase.TheVariants.{Idle}
use Rattle.store.proofs.RunLaws.{next_by}
use Rattle.flushing_store.proofs.OwnAccount.{Unheard, begun}
use Rattle.flushing_store.proofs.WholeAccount.{account}
use Rattle.flushing_store.proofs.StepLaws.{step_is, rest_stops, said_more}

module _ (c : Command) (u : core c ≡ false) (e : (m : List ℕ) → turned (control_of m) m (said c) ≡ stepped m (refused 2)) where
  works : (n pages : ℕ) (h : House) (w : World) (ev : Event) (ts : List (List ℕ)) (μ : ℕ) (B : World → Event → List (List ℕ) → ℕ → Type 0) → Unheard n pages h c w ev ts μ →
      NextStep own B (Ends core account n pages h c) w ev ts μ
  works n pages h w ev ts μ B (begun r q t) =
      next_by own B (Ends core account n pages h c) w ev ts μ (stepped w.memory (refused 2))
      (ap (own.step w.memory) q ∙ step_is w.memory (said c) r.held.long ∙ e w.memory) (refl, unknown u refl t (said_more n pages h Idle w r))

  told : (n pages : ℕ) (h : House) (w : World) (ev : Event) (ts : List (List ℕ)) (μ : ℕ) → Unheard n pages h c w ev ts μ → TellsRight core h c ts
  told n pages h w ev ts μ (begun r q t) = nothing t

  stops : (n pages : ℕ) (h : House) (w : World) (ev : Event) (ts : List (List ℕ)) (μ : ℕ) → Unheard n pages h c w ev ts μ → (cs : List ℕ) → StopLeaves core account n pages h c (leavings w cs)
  stops n pages h w ev ts μ (begun r q t) cs = undone (rest_stops (suc n) pages h Idle w (said_more n pages h Idle w r) cs)

pub range_serves : (a : List ℕ) (b : List (List ℕ)) (s : ℕ) → Serves core own account (range a b s)
unfolding core turned heard
range_serves a b s = record {
  hears = λ n pages h w l g i. (0, begun i refl refl);
  works_on = λ n pages h w ev ts μ l i. works (range a b s) refl (λ m. refl) n pages h w ev ts μ (account.Busy n pages h (range a b s)) i;
  tells_right = λ n pages h w ev ts μ l i. told (range a b s) refl (λ m. refl) n pages h w ev ts μ i;
  stop_leaves = λ n pages h w ev ts μ l i. stops (range a b s) refl (λ m. refl) n pages h w ev ts μ i;
}

pub first_serves : (s : ℕ) → Serves core own account (first_key s)
unfolding core turned heard
first_serves s = record {
  hears = λ n pages h w l g i. (0, begun i refl refl);
  works_on = λ n pages h w ev ts μ l i. works (first_key s) refl (λ m. refl) n pages h w ev ts μ (account.Busy n pages h (first_key s)) i;
  tells_right = λ n pages h w ev ts μ l i. told (first_key s) refl (λ m. refl) n pages h w ev ts μ i;
  stop_leaves = λ n pages h w ev ts μ l i. stops (first_key s) refl (λ m. refl) n pages h w ev ts μ i;
}

pub last_serves : (s : ℕ) → Serves core own account (last_key s)
unfolding core turned heard
last_serves s = record {
  hears = λ n pages h w l g i. (0, begun i refl refl);
  works_on = λ n pages h w ev ts μ l i. works (last_key s) refl (λ m. refl) n pages h w ev ts μ (account.Busy n pages h (last_key s)) i;
  tells_right = λ n pages h w ev ts μ l i. told (last_key s) refl (λ m. refl) n pages h w ev ts μ i;
  stop_leaves = λ n pages h w ev ts μ l i. stops (last_key s) refl (λ m. refl) n pages h w ev ts μ i;
}

pub count_serves : (s : ℕ) → Serves core own account (count s)
unfolding core turned heard
count_serves s = record {
  hears = λ n pages h w l g i. (0, begun i refl refl);
  works_on = λ n pages h w ev ts μ l i. works (count s) refl (λ m. refl) n pages h w ev ts μ (account.Busy n pages h (count s)) i;
  tells_right = λ n pages h w ev ts μ l i. told (count s) refl (λ m. refl) n pages h w ev ts μ i;
  stop_leaves = λ n pages h w ev ts μ l i. stops (count s) refl (λ m. refl) n pages h w ev ts μ i;
}

pub compact_serves : (t : ℕ) → Serves core own account (compact t)
unfolding core turned heard
compact_serves t = record {
  hears = λ n pages h w l g i. (0, begun i refl refl);
  works_on = λ n pages h w ev ts μ l i. works (compact t) refl (λ m. refl) n pages h w ev ts μ (account.Busy n pages h (compact t)) i;
  tells_right = λ n pages h w ev ts μ l i. told (compact t) refl (λ m. refl) n pages h w ev ts μ i;
  stop_leaves = λ n pages h w ev ts μ l i. stops (compact t) refl (λ m. refl) n pages h w ev ts μ i;
}

pub unheard_serves : (c : Command) → core c ≡ false → Serves core own account c
unfolding core
unheard_serves (write k m v) u = clash true refl u
unheard_serves (erase k m) u = clash true refl u
unheard_serves (get k s) u = clash true refl u
unheard_serves (range a b s) u = range_serves a b s
unheard_serves (first_key s) u = first_serves s
unheard_serves (last_key s) u = last_serves s
unheard_serves (count s) u = count_serves s
unheard_serves flush u = clash true refl u
unheard_serves (compact t) u = compact_serves t
