-- Getting serves the house: it shows what is seen in one row or none, and then it has ended.
use Rattle.std.proofs.Common.{◌≡◌, ℕ, ◌<◌, Bool, true, ◌&&◌, ltb, leb, List, [], ◌∷◌, ◌++◌, length, sym, refl, ap, ◌∙◌, subst, append-nil, arith, le-ltb}
use Rattle.value.specs.Versions.{every}
use Rattle.value.proofs.TestLaws.{and_left_of, and_right_of}
use Rattle.memtable.specs.Words.{bytes}
use Rattle.store.specs.House.{House, get, refusal, after, shows, small_command}
use Rattle.store.specs.Promise.{Event, said, next, done, Step, World}
use Rattle.store.specs.Account.{Next, NextStep, leavings, TellsRight, nothing, part, StopLeaves, undone, Ends, finished, most_commands, Serves}
use Rattle.store.specs.Control.{control, control_of, put_control}
use Rattle.store.specs.Acts.{stepped}
use Rattle.store.specs.Get.{got}
use Rattle.store.specs.Own.{known, heard, went_on, turned, own}
use Rattle.store.specs.declared.control.Phase.TheVariants.{Idle, Shown}
use Rattle.store.proofs.RunLaws.{next_by}
use Rattle.store.proofs.HeldLaws.{Held, held_phase}
use Rattle.store.proofs.GotLaws.{Outcome, nothing_shown, row_shown, got_outcome}
use Rattle.store.proofs.OwnAccount.{Rest, Within, begun, shown, account, rest_stops, step_is}

abbrev is_byte : ℕ → Bool
is_byte b = ltb b 256

get_bytes : (k : List ℕ) (s : ℕ) → small_command (get k s) ≡ true → bytes k ≡ true
unfolding small_command
get_bytes k s g = and_left_of (every is_byte k) (ltb s 18446744073709551616) (and_right_of (leb (length k) 4096) (every is_byte k && ltb s 18446744073709551616) g)

-- no moment is below which nobody asks
asked : (h : House) (k : List ℕ) (s : ℕ) → h.low ≡ 0 → refusal h (get k s) ≡ 0
unfolding refusal
asked h k s e = rw (e, le-ltb s 0 (omega arith)) refl

module _ (key : List ℕ) (s : ℕ) where
  heard_is : (m : List ℕ) → turned (control_of m) m (said (get key s)) ≡ got (control_of m) m key s
  unfolding turned heard
  heard_is m = refl

  known_get : known (get key s) ≡ true
  unfolding known
  known_get = refl

  after_get : (h : House) → after h (get key s) ≡ h
  unfolding after
  after_get h = refl

  rest_after : (pages : ℕ) (h : House) (w : World) → Rest pages h Idle w → Rest pages (after h (get key s)) Idle w
  rest_after pages h w r = subst (λ x. Rest pages x Idle w) (sym (after_get h)) r

  ends_so : (n pages : ℕ) (h : House) (w : World) (ts : List (List ℕ)) (μ : ℕ) (x : Step) → Rest pages h Idle w → ts ≡ [] → μ ≡ 1 → Outcome pages h w.memory key s x →
      Next (account.Busy n pages h (get key s)) (Ends known account n pages h (get key s)) w.device ts x.memory μ x.act
  ends_so n pages h w ts μ x r t z (nothing_shown q e) =
      rw q (finished known_get (asked h key s r.held.none_low) refl (t ∙ sym e) (rest_after pages h w r))
  ends_so n pages h w ts μ x r t z (row_shown m₁ row q l e o) =
      rw q (0, omega arith, l, shown key s refl record { quiet = r.quiet; sized = r.sized; held = o } refl (ap (λ y. y ++ row ∷ []) t ∙ sym e) refl)

  -- after the row, done
  went_is : (pages : ℕ) (h : House) (m : List ℕ) (o : Held pages h Shown m) → turned (control_of m) m next ≡ stepped (put_control m (control Idle pages h.last o.table)) done
  unfolding turned went_on
  went_is pages h m o = rw o.control_is refl

  pub get_serves : Serves known own account (get key s)
  get_serves = record {
    hears = λ n pages h w b g i. (1, begun i g refl refl refl);
    works_on = works;
    tells_right = told;
    stop_leaves = stops;
  }
    where
      works : (n pages : ℕ) (h : House) (w : World) (ev : Event) (ts : List (List ℕ)) (μ : ℕ) → n < most_commands → Within pages h (get key s) w ev ts μ →
          NextStep own (account.Busy n pages h (get key s)) (Ends known account n pages h (get key s)) w ev ts μ
      works n pages h w ev ts μ b (begun r g e t z) =
          next_by own (account.Busy n pages h (get key s)) (Ends known account n pages h (get key s)) w ev ts μ (got (control_of w.memory) w.memory key s)
          (ap (own.step w.memory) e ∙ step_is w.memory (said (get key s)) r.held.long ∙ heard_is w.memory)
          (ends_so n pages h w ts μ (got (control_of w.memory) w.memory key s) r t z (got_outcome pages h w.memory key s r.held (get_bytes key s g)))
      works n pages h w ev ts μ b (shown k₁ s₁ x r e t z) =
          next_by own (account.Busy n pages h (get key s)) (Ends known account n pages h (get key s)) w ev ts μ
          (stepped (put_control w.memory (control Idle pages h.last r.held.table)) done)
          (ap (own.step w.memory) e ∙ step_is w.memory next r.held.long ∙ went_is pages h w.memory r.held)
          (finished known_get (asked h key s r.held.none_low) refl (t ∙ ap (shows h) (sym x))
          (rest_after pages h _ record { quiet = r.quiet; sized = r.sized; held = held_phase pages h Shown Idle w.memory r.held }))

      told : (n pages : ℕ) (h : House) (w : World) (ev : Event) (ts : List (List ℕ)) (μ : ℕ) → n < most_commands → Within pages h (get key s) w ev ts μ → TellsRight known h (get key s) ts
      told n pages h w ev ts μ b (begun r g e t z) = nothing t
      told n pages h w ev ts μ b (shown k₁ s₁ x r e t z) =
          part known_get (asked h key s r.held.none_low) [] (ap (shows h) x ∙ sym t ∙ sym (append-nil ts))

      stops : (n pages : ℕ) (h : House) (w : World) (ev : Event) (ts : List (List ℕ)) (μ : ℕ) → n < most_commands → Within pages h (get key s) w ev ts μ →
          (cs : List ℕ) → StopLeaves known account n pages h (get key s) (leavings w cs)
      stops n pages h w ev ts μ b (begun r g e t z) cs = undone (rest_stops pages h Idle w r cs)
      stops n pages h w ev ts μ b (shown k₁ s₁ x r e t z) cs = undone (rest_stops pages h Shown w r cs)
