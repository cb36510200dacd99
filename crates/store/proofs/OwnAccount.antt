-- An account of the machine: what holds at rest, at power-on, between commands and within one. Nothing waits on the device, and memory holds the house.
use Rattle.std.proofs.Common.{◌≡◌, ℕ, ◌≤◌, true, List, [], length, sym, refl, ap, ◌∙◌, subst, eq-eqb}
use Rattle.value.specs.Versions.{Version}
use Rattle.value.specs.Rising.{last_moment}
use Rattle.table.specs.Device.{Page, left}
use Rattle.table.proofs.DeviceLaws.{length_blank}
use Rattle.store.specs.House.{House, house, Command, get, small_command, shows}
use Rattle.store.specs.Promise.{Event, on, said, next, World, world}
use Rattle.store.specs.Account.{Account, leavings, Fresh, WakesUp, WakesOn, WakingStops, IdleStops}
use Rattle.store.specs.Control.{memory_words, control_of}
use Rattle.store.specs.Own.{powered, turned, own}
use Rattle.store.specs.declared.control.Phase.{Phase}
use Rattle.store.specs.declared.control.Phase.TheVariants.{Idle, Shown}
use Rattle.store.proofs.RunLaws.{wake_by}
use Rattle.store.proofs.SteadyLaws.{start_long}
use Rattle.store.proofs.HeldLaws.{Held, held_empty}

pub record Rest (pages : ℕ) (h : House) (p : Phase) (w : World) : Type 0 where
  pub quiet : w.device.queue ≡ []
  pub sized : length w.device.pages ≡ pages
  pub held : Held pages h p w.memory

pub record Empty (pages : ℕ) (vs : List Version) (t : ℕ) (ps : List Page) : Type 0 where
  pub none : vs ≡ []
  pub low : t ≡ 0
  pub sized : length ps ≡ pages
  pub few : pages ≤ 1048576

pub record Comes (pages : ℕ) (vs : List Version) (t : ℕ) (w : World) (ev : Event) : Type 0 where
  pub empty : Empty pages vs t w.device.pages
  pub quiet : w.device.queue ≡ []
  pub long : length w.memory ≡ memory_words
  pub event : ev ≡ on pages

pub data Within (pages : ℕ) (h : House) (c : Command) (w : World) (ev : Event) (ts : List (List ℕ)) (μ : ℕ) : Type 0 where
  begun : Rest pages h Idle w → small_command c ≡ true → ev ≡ said c → ts ≡ [] → μ ≡ 1 → Within pages h c w ev ts μ
  shown : (key : List ℕ) (s : ℕ) → c ≡ get key s → Rest pages h Shown w → ev ≡ next → ts ≡ shows h (get key s) → μ ≡ 0 → Within pages h c w ev ts μ

abbrev pub account : Account
account = record {
  Durable = λ n pages vs t ps. Empty pages vs t ps;
  Waking = λ n pages vs t w ev μ. Comes pages vs t w ev;
  Idle = λ n pages h w. Rest pages h Idle w;
  Busy = λ n pages h c w ev ts μ. Within pages h c w ev ts μ;
}

-- a stop of a device on which nothing waits leaves its pages
left_quiet : (w : World) (cs : List ℕ) → w.device.queue ≡ [] → leavings w cs ≡ w.device.pages
unfolding left
left_quiet w cs e = rw e refl

pub rest_stops : (pages : ℕ) (h : House) (p : Phase) (w : World) → Rest pages h p w → (cs : List ℕ) → Empty pages h.safe h.low (leavings w cs)
rest_stops pages h p w r cs = record {
  none = r.held.none_safe;
  low = r.held.none_low;
  sized = ap length (left_quiet w cs r.quiet) ∙ r.sized;
  few = r.held.few;
}

-- a step of a memory of the right length
pub step_is : (m : List ℕ) (ev : Event) → length m ≡ memory_words → own.step m ev ≡ turned (control_of m) m ev
unfolding own
step_is m ev l = rw (eq-eqb (length m) memory_words l) refl

pub fresh : Fresh account
fresh pages lo hi = record { none = refl; low = refl; sized = length_blank pages; few = hi }

pub wakes_up : WakesUp own account
wakes_up n pages vs t ps b d = (0, record { empty = d; quiet = refl; long = start_long; event = ap on d.sized })

pub wakes_on : WakesOn own account
unfolding turned powered last_moment
wakes_on n pages vs t w ev μ b i =
    wake_by own account n pages vs t w ev μ (turned (control_of w.memory) w.memory (on pages)) (ap (own.step w.memory) i.event ∙ step_is w.memory (on pages) i.long)
    (subst (λ x. Rest pages x Idle (world w.device (powered w.memory pages).memory)) (λ j. house (sym i.empty.none j) (sym i.empty.none j) (last_moment (sym i.empty.none j)) (sym i.empty.low j))
    record { quiet = i.quiet; sized = i.empty.sized; held = held_empty pages w.memory i.long i.empty.few })

pub waking_stops : WakingStops account
waking_stops n pages vs t w ev μ b i cs = record {
  none = i.empty.none;
  low = i.empty.low;
  sized = ap length (left_quiet w cs i.quiet) ∙ i.empty.sized;
  few = i.empty.few;
}

pub idle_stops : IdleStops account
idle_stops n pages h w b i cs = rest_stops pages h Idle w i cs
