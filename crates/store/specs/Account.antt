-- From steps to whole runs: an account of a machine says by predicates what holds at rest, at power-on, between commands and within one; `Obligations` is what is owed
-- of it, a step at a time; `StepsSuffice` is the theorem that the main promise follows, for any engine and any set of known commands.
--   Next            what an act has to leave, with a number that falls
--   Account         the four predicates
--   Ends            how a command may end
--   TellsRight     what may have been told on the way
--   StopLeaves     what a stop on the way may leave
--   Serves          what is owed of one command, so that each is proved in a file of its own
use Rattle.std.specs.Prelude.{◌≡◌, ℕ, suc, ◌<◌, ◌≤◌, Bool, true, false, ◌&&◌, List, [], ◌∷◌, ◌++◌, length, nat_le, nat_lt}
use Rattle.value.specs.Rising.{last_moment}
use Rattle.value.specs.Versions.{Version}
use Rattle.table.specs.Device.{Device, Page, read_page, flushed, left, blank, a_page}
use Rattle.store.specs.House.{House, house, Command, refusal, after, RefusedToo, small_command, shows}
use Rattle.store.specs.Promise.{Event, on, said, page, next, Act, read, put, settle, tells, done, refused, Engine, World, world, queued, Steady, Whole}

-- A RUN, IN GENERAL. `I w ev ts μ`: the machine is at it, with so much told, and at most μ more acts come before the last. `End w ts r`: it ended so.
-- What an act has to leave:
abbrev pub Next : (World → Event → List (List ℕ) → ℕ → Type 0) → (World → List (List ℕ) → ℕ → Type 0) → Device → List (List ℕ) → List ℕ → ℕ → Act → Type 0
Next I End d ts m μ (read k) = (ν : ℕ) × (ν < μ) × I (world d m) (page (read_page d k)) ts ν
Next I End d ts m μ (put k p) =
    (ν : ℕ) × (ν < μ) × (nat_lt k (length d.pages) ≡ true) × (a_page p ≡ true) × I (world (queued d k p) m) next ts ν
Next I End d ts m μ settle = (ν : ℕ) × (ν < μ) × I (world (flushed d) m) next ts ν
Next I End d ts m μ (tells t) = (ν : ℕ) × (ν < μ) × (nat_le (length t) 1280 ≡ true) × I (world d m) next (ts ++ t ∷ []) ν
Next I End d ts m μ done = End (world d m) ts 0
Next I End d ts m μ (refused k) = ((nat_le 1 k && nat_lt k 1000) ≡ true) × End (world d m) ts k

-- the same of an engine's own step
abbrev pub NextStep : Engine → (World → Event → List (List ℕ) → ℕ → Type 0) → (World → List (List ℕ) → ℕ → Type 0) → World → Event → List (List ℕ) → ℕ → Type 0
NextStep e I End w ev ts μ = Next I End w.device ts (e.step w.memory ev).memory μ (e.step w.memory ev).act

-- AN ACCOUNT OF A MACHINE, chosen by whoever proves it. `n` is how many commands were said up to now, `pages` how many pages there are.
pub record Account : Type 1 where
  -- nothing waits, and these pages hold these versions, all safe, and this low moment
  pub Durable : (n pages : ℕ) → List Version → ℕ → List Page → Type 0
  -- power came back to such pages; at most so many acts before the last
  pub Waking : (n pages : ℕ) → List Version → ℕ → World → Event → ℕ → Type 0
  -- between commands
  pub Idle : (n pages : ℕ) → House → World → Type 0
  -- n commands came before this one, which was said to this house; so much is told; at most so many acts before the last
  pub Busy : (n pages : ℕ) → House → Command → World → Event → List (List ℕ) → ℕ → Type 0

-- the house that power finds
abbrev pub rested : List Version → ℕ → House
rested vs t = house vs vs (last_moment vs) t

abbrev pub resting : Engine → List Page → World
resting e ps = world (record { pages = ps; queue = [] }) e.start

-- what a stop leaves of a world's pages
abbrev pub leavings : World → List ℕ → List Page
leavings w cs = left w.device.pages w.device.queue cs

-- while power comes: no refusal, and nothing told
abbrev pub WakeNext : Account → (n pages : ℕ) → List Version → ℕ → Device → List ℕ → ℕ → Act → Type 0
WakeNext A n pages vs t d m μ (read k) = (ν : ℕ) × (ν < μ) × A.Waking n pages vs t (world d m) (page (read_page d k)) ν
WakeNext A n pages vs t d m μ (put k p) =
    (ν : ℕ) × (ν < μ) × (nat_lt k (length d.pages) ≡ true) × (a_page p ≡ true) × A.Waking n pages vs t (world (queued d k p) m) next ν
WakeNext A n pages vs t d m μ settle = (ν : ℕ) × (ν < μ) × A.Waking n pages vs t (world (flushed d) m) next ν
WakeNext A n pages vs t d m μ (tells s) = ⊥
WakeNext A n pages vs t d m μ done = A.Idle n pages (rested vs t) (world d m)
WakeNext A n pages vs t d m μ (refused k) = ⊥

-- how a command may end
pub data Ends (known : Command → Bool) (A : Account) (n pages : ℕ) (h : House) (c : Command) (w : World) (ts : List (List ℕ)) (r : ℕ) : Type 0 where
  unknown : known c ≡ false → r ≡ 2 → ts ≡ [] → A.Idle (suc n) pages h w → Ends known A n pages h c w ts r
  rejected : known c ≡ true → 0 < refusal h c → r ≡ refusal h c → ts ≡ [] → A.Idle (suc n) pages h w → Ends known A n pages h c w ts r
  no_room : known c ≡ true → refusal h c ≡ 0 → RefusedToo h pages c r → ts ≡ [] → A.Idle (suc n) pages h w → Ends known A n pages h c w ts r
  finished : known c ≡ true → refusal h c ≡ 0 → r ≡ 0 → ts ≡ shows h c → A.Idle (suc n) pages (after h c) w → Ends known A n pages h c w ts r

-- what may have been told on the way
pub data TellsRight (known : Command → Bool) (h : House) (c : Command) (ts : List (List ℕ)) : Type 0 where
  nothing : ts ≡ [] → TellsRight known h c ts
  part : known c ≡ true → refusal h c ≡ 0 → (rest : List (List ℕ)) → shows h c ≡ ts ++ rest → TellsRight known h c ts

-- what a stop on the way may leave
pub data StopLeaves (known : Command → Bool) (A : Account) (n pages : ℕ) (h : House) (c : Command) (ps : List Page) : Type 0 where
  undone : A.Durable (suc n) pages h.safe h.low ps → StopLeaves known A n pages h c ps
  done_already : known c ≡ true → refusal h c ≡ 0 → A.Durable (suc n) pages (after h c).safe (after h c).low ps → StopLeaves known A n pages h c ps

-- the bound on the number of commands, which every obligation is handed
abbrev pub most_commands : ℕ
most_commands = 4294967296

-- WHAT IS OWED, one by one
abbrev pub Fresh : Account → Type 0
Fresh A = (pages : ℕ) → 64 ≤ pages → pages ≤ 1048576 → A.Durable 0 pages [] 0 (blank pages)

abbrev pub WakesUp : Engine → Account → Type 0
WakesUp e A =
    (n pages : ℕ) (vs : List Version) (t : ℕ) (ps : List Page) → n ≤ most_commands → A.Durable n pages vs t ps →
    (μ : ℕ) × A.Waking n pages vs t (resting e ps) (on (length ps)) μ

abbrev pub WakesOn : Engine → Account → Type 0
WakesOn e A =
    (n pages : ℕ) (vs : List Version) (t : ℕ) (w : World) (ev : Event) (μ : ℕ) → n ≤ most_commands → A.Waking n pages vs t w ev μ →
    WakeNext A n pages vs t w.device (e.step w.memory ev).memory μ (e.step w.memory ev).act

abbrev pub WakingStops : Account → Type 0
WakingStops A =
    (n pages : ℕ) (vs : List Version) (t : ℕ) (w : World) (ev : Event) (μ : ℕ) → n ≤ most_commands → A.Waking n pages vs t w ev μ →
    (cs : List ℕ) → A.Durable n pages vs t (leavings w cs)

abbrev pub IdleStops : Account → Type 0
IdleStops A =
    (n pages : ℕ) (h : House) (w : World) → n ≤ most_commands → A.Idle n pages h w →
    (cs : List ℕ) → A.Durable n pages h.safe h.low (leavings w cs)

-- of one command: it is heard, each of its steps keeps what holds within it, what was told is right, and so is what a stop leaves
pub record Serves (known : Command → Bool) (e : Engine) (A : Account) (c : Command) : Type 0 where
  pub hears :
      (n pages : ℕ) (h : House) (w : World) → n < most_commands → small_command c ≡ true → A.Idle n pages h w →
      (μ : ℕ) × A.Busy n pages h c w (said c) [] μ
  pub works_on :
      (n pages : ℕ) (h : House) (w : World) (ev : Event) (ts : List (List ℕ)) (μ : ℕ) → n < most_commands → A.Busy n pages h c w ev ts μ →
      NextStep e (A.Busy n pages h c) (Ends known A n pages h c) w ev ts μ
  pub tells_right :
      (n pages : ℕ) (h : House) (w : World) (ev : Event) (ts : List (List ℕ)) (μ : ℕ) → n < most_commands → A.Busy n pages h c w ev ts μ →
      TellsRight known h c ts
  pub stop_leaves :
      (n pages : ℕ) (h : House) (w : World) (ev : Event) (ts : List (List ℕ)) (μ : ℕ) → n < most_commands → A.Busy n pages h c w ev ts μ →
      (cs : List ℕ) → StopLeaves known A n pages h c (leavings w cs)

pub record Obligations (known : Command → Bool) (e : Engine) (A : Account) : Type 0 where
  pub fresh : Fresh A
  pub wakes_up : WakesUp e A
  pub wakes_on : WakesOn e A
  pub waking_stops : WakingStops A
  pub idle_stops : IdleStops A
  pub serves : (c : Command) → Serves known e A c

-- an account by tests; a contract speaks of these, since a statement about all predicates is no Type 0
pub record Tested : Type 0 where
  pub durable : (n pages : ℕ) → List Version → ℕ → List Page → Bool
  pub waking : (n pages : ℕ) → List Version → ℕ → World → Event → ℕ → Bool
  pub idle : (n pages : ℕ) → House → World → Bool
  pub busy : (n pages : ℕ) → House → Command → World → Event → List (List ℕ) → ℕ → Bool

abbrev pub tested : Tested → Account
tested T = record {
  Durable = λ n pages vs t ps. T.durable n pages vs t ps ≡ true;
  Waking = λ n pages vs t w ev μ. T.waking n pages vs t w ev μ ≡ true;
  Idle = λ n pages h w. T.idle n pages h w ≡ true;
  Busy = λ n pages h c w ev ts μ. T.busy n pages h c w ev ts μ ≡ true;
}

-- THE THEOREM: steps that are right make runs that are right
abbrev pub StepsSuffice : Type 0
StepsSuffice = (known : Command → Bool) (e : Engine) (T : Tested) → Obligations known e (tested T) → Steady e → Whole known e
