-- The machine keeps the main promise.
use Rattle.std.proofs.Common.{◌≡◌, ℕ, ◌<◌, true, false, List, refl, ap, ◌∙◌, arith}
use Rattle.store.specs.House.{House, Command, write, erase, get, range, first_key, last_key, count, flush, compact}
use Rattle.store.specs.Promise.{Event, said, refused, World}
use Rattle.store.specs.Account.{NextStep, leavings, TellsRight, nothing, StopLeaves, undone, Ends, unknown, most_commands, Serves, Obligations}
use Rattle.store.specs.Control.{control_of}
use Rattle.store.specs.Acts.{stepped}
use Rattle.store.specs.Own.{known, heard, turned, own, OwnWhole}
use Rattle.store.specs.declared.control.Phase.TheVariants.{Idle, Shown}
use Rattle.store.proofs.RunLaws.{next_by}
use Rattle.store.proofs.WholeLaws.{whole_of}
use Rattle.store.proofs.SteadyLaws.{steady}
use Rattle.store.proofs.OwnAccount.{Within, begun, shown, account, rest_stops, step_is, fresh, wakes_up, wakes_on, waking_stops, idle_stops}
use Rattle.store.proofs.WriteServes.{write_serves, write_writes, erase_writes}
use Rattle.store.proofs.GetServes.{get_serves}

-- a command that is not known is refused with 2, and nothing changes
module _ (c : Command) (u : known c ≡ false) (no_get : (key : List ℕ) (s : ℕ) → c ≡ get key s → ⊥) (e : (m : List ℕ) → turned (control_of m) m (said c) ≡ stepped m (refused 2)) where
  unknown_serves : Serves known own account c
  unknown_serves = record {
    hears = λ n pages h w b g i. (1, begun i g refl refl refl);
    works_on = works;
    tells_right = told;
    stop_leaves = stops;
  }
    where
      works : (n pages : ℕ) (h : House) (w : World) (ev : Event) (ts : List (List ℕ)) (μ : ℕ) → n < most_commands → Within pages h c w ev ts μ →
          NextStep own (account.Busy n pages h c) (Ends known account n pages h c) w ev ts μ
      works n pages h w ev ts μ b (begun r g q t z) =
          next_by own (account.Busy n pages h c) (Ends known account n pages h c) w ev ts μ (stepped w.memory (refused 2))
          (ap (own.step w.memory) q ∙ step_is w.memory (said c) r.held.long ∙ e w.memory) (refl, unknown u refl t r)
      works n pages h w ev ts μ b (shown key s x r q t z) = absurd (no_get key s x)

      told : (n pages : ℕ) (h : House) (w : World) (ev : Event) (ts : List (List ℕ)) (μ : ℕ) → n < most_commands → Within pages h c w ev ts μ → TellsRight known h c ts
      told n pages h w ev ts μ b (begun r g q t z) = nothing t
      told n pages h w ev ts μ b (shown key s x r q t z) = absurd (no_get key s x)

      stops : (n pages : ℕ) (h : House) (w : World) (ev : Event) (ts : List (List ℕ)) (μ : ℕ) → n < most_commands → Within pages h c w ev ts μ →
          (cs : List ℕ) → StopLeaves known account n pages h c (leavings w cs)
      stops n pages h w ev ts μ b (begun r g q t z) cs = undone (rest_stops pages h Idle w r cs)
      stops n pages h w ev ts μ b (shown key s x r q t z) cs = undone (rest_stops pages h Shown w r cs)

clash_get : (c : Command) (key : List ℕ) (s : ℕ) → known c ≡ false → c ≡ get key s → ⊥
unfolding known
clash_get c key s u x = let z : ◌≡◌ {A = ℕ} 0 1 = absurd_known (ap known x) in omega arith
  where
    absurd_known : known c ≡ true → ◌≡◌ {A = ℕ} 0 1
    absurd_known q = cc

serves : (c : Command) → Serves known own account c
unfolding known turned heard
serves (write k m v) = write_serves (write k m v) _ (write_writes k m v)
serves (erase k m) = write_serves (erase k m) _ (erase_writes k m)
serves (get k s) = get_serves k s
serves (range a b s) = unknown_serves (range a b s) refl (λ key t x. clash_get (range a b s) key t refl x) (λ m. refl)
serves (first_key s) = unknown_serves (first_key s) refl (λ key t x. clash_get (first_key s) key t refl x) (λ m. refl)
serves (last_key s) = unknown_serves (last_key s) refl (λ key t x. clash_get (last_key s) key t refl x) (λ m. refl)
serves (count s) = unknown_serves (count s) refl (λ key t x. clash_get (count s) key t refl x) (λ m. refl)
serves flush = unknown_serves flush refl (λ key t x. clash_get flush key t refl x) (λ m. refl)
serves (compact t) = unknown_serves (compact t) refl (λ key u x. clash_get (compact t) key u refl x) (λ m. refl)

obligations : Obligations known own account
obligations = record {
  fresh = fresh;
  wakes_up = wakes_up;
  wakes_on = wakes_on;
  waking_stops = waking_stops;
  idle_stops = idle_stops;
  serves = serves;
}

pub own_whole : OwnWhole
own_whole = whole_of known own account obligations steady
