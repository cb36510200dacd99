-- The machine beside its pages, what may happen to both, and what's promised of it. Each promise is a statement, a type whose proof is owed.
use Rattle.std.specs.Prelude.{◌≡◌, ℕ, zero, suc, ◌<◌, ◌≤◌, Bool, true, false, ◌&&◌, ltb, ◌⊎◌, List, [], ◌∷◌, ◌++◌, length, ◌==◌, nat_eq, nat_le, nat_lt}
use Rattle.value.specs.Versions.{pick, every, any, same, Version, latest}
use Rattle.table.specs.Device.{Device, Page, Write, page_at, read_page, flushed, stopped, blank, a_page, elsewhere}
use Rattle.store.specs.House.{House, house, Command, refusal, after, May, stopped_house, small_command, shows}

pub data Event : Type 0 where
  on : ℕ → Event  -- power is there, memory is as at the start; so many pages there are
  said : Command → Event
  page : List ℕ → Event  -- the page that was asked for
  next : Event

pub data Act : Type 0 where
  read : ℕ → Act
  put : ℕ → List ℕ → Act  -- a page is to be written: it waits
  settle : Act  -- what waits is written
  tells : List ℕ → Act  -- up to 1,280 bytes, or one number
  done : Act
  refused : ℕ → Act

pub record Step : Type 0 where
  pub memory : List ℕ
  pub act : Act

pub record Engine : Type 0 where
  pub start : List ℕ
  pub step : List ℕ → Event → Step

pub record World : Type 0 where
  pub device : Device
  pub memory : List ℕ

abbrev pub world : Device → List ℕ → World
world d m = record { device = d; memory = m }

-- how an event went: what was told, and the end: 0 done, a refusal, 1000 still at it, 1001 a fault
pub record Ran : Type 0 where
  pub here : World
  pub told : List (List ℕ)
  pub end : ℕ

abbrev pub ran : World → List (List ℕ) → ℕ → Ran
ran w ts e = record { here = w; told = ts; end = e }

abbrev pub queued : Device → ℕ → Page → Device
queued d k p = record { pages = d.pages; queue = d.queue ++ record { at = k; page = p } ∷ [] }

unfoldable pub one_act : (World → Event → List (List ℕ) → Ran) → Device → List (List ℕ) → List ℕ → Act → Ran
one_act go d ts m (read k) = go (world d m) (page (read_page d k)) ts
one_act go d ts m (put k p) = pick (nat_lt k (length d.pages) && a_page p) (go (world (queued d k p) m) next ts) (ran (world d m) ts 1001)
one_act go d ts m settle = go (world (flushed d) m) next ts
one_act go d ts m (tells t) = pick (nat_le (length t) 1280) (go (world d m) next (ts ++ t ∷ [])) (ran (world d m) ts 1001)
one_act go d ts m done = ran (world d m) ts 0
one_act go d ts m (refused k) = ran (world d m) ts (pick (nat_le 1 k && nat_lt k 1000) k 1001)

unfoldable pub runs : ℕ → Engine → World → Event → List (List ℕ) → Ran
runs zero e w ev ts = ran w ts 1000
runs (suc n) e w ev ts =
    one_act (λ w₁ ev₁ ts₁. runs n e w₁ ev₁ ts₁) w.device ts (e.step w.memory ev).memory (e.step w.memory ev).act

unfoldable pub all_small : List ℕ → Bool
all_small ms = every (λ m. ltb m 18446744073709551616) ms

-- memory is all 0 at the start; it never grows, nor do its numbers beyond 64 bits
unfoldable pub Steady : Engine → Type 0
Steady e =
    (length e.start ≤ 524288) × (every (λ m. nat_eq m 0) e.start ≡ true)
    × ((m : List ℕ) (ev : Event) → (length (e.step m ev).memory ≡ length m) × (all_small m ≡ true → all_small (e.step m ev).memory ≡ true))

-- WHAT MAY HAPPEN: something is said; or it is, and the machine stops after so many acts, and of what waits so much is left; then power comes back, and may go again,
-- as often as it's said, in the middle of what's done when it comes
pub record Cut : Type 0 where
  pub acts : ℕ
  pub left : List ℕ

pub data Item : Type 0 where
  whole : Command → Item
  stops : Command → Cut → List Cut → Item

abbrev pub proper : Item → Bool
proper (whole c) = small_command c
proper (stops c k ks) = small_command c

-- power comes back after a stop
abbrev pub dark : Engine → World → List ℕ → World
dark e w cs = world (stopped w.device cs) e.start

abbrev pub waking : Engine → ℕ → World → Ran
waking e n w = runs n e w (on (length w.device.pages)) []

-- cut short again and again
unfoldable pub again : Engine → World → List Cut → World
again e w [] = w
again e w (k ∷ ks) = again e (dark e (waking e k.acts w).here k.left) ks

unfoldable pub Wakes : Engine → World → World → Type 0
Wakes e w w₁ = (n : ℕ) × ((waking e n w).end ≡ 0) × ((waking e n w).told ≡ []) × (w₁ ≡ (waking e n w).here)

-- as much as was told before a stop is a beginning of what would have been
unfoldable pub begins_rows : List (List ℕ) → List (List ℕ) → Bool
begins_rows [] bs = true
begins_rows (x ∷ xs) [] = false
begins_rows (x ∷ xs) (y ∷ ys) = same x y && begins_rows xs ys

unfoldable pub Right : (Command → Bool) → ℕ → Engine → World → House → List Item → Type 0
Right known pages e w h [] = zero ≡ zero
Right known pages e w h (whole c ∷ is) =
    (n : ℕ) × (h₁ : House)
    × ((known c ≡ false → ((runs n e w (said c) []).end ≡ 2) × ((runs n e w (said c) []).told ≡ []) × (h₁ ≡ h))
    × (known c ≡ true → May pages h c (runs n e w (said c) []).end (runs n e w (said c) []).told h₁))
    × Right known pages e (runs n e w (said c) []).here h₁ is
Right known pages e w h (stops c k ks ∷ is) =
    (h₁ : House) × (w₁ : World)
    × Wakes e (again e (dark e (runs k.acts e w (said c) []).here k.left) ks) w₁
    × (known c ≡ false → (runs k.acts e w (said c) []).told ≡ [])
    × (known c ≡ true → 0 < refusal h c → (runs k.acts e w (said c) []).told ≡ [])
    × (known c ≡ true → refusal h c ≡ 0 → begins_rows (runs k.acts e w (said c) []).told (shows h c) ≡ true)
    × ((h₁ ≡ stopped_house h) ⊎ ((known c ≡ true) × (refusal h c ≡ 0) × (h₁ ≡ stopped_house (after h c))))
    × (known c ≡ true → refusal h c ≡ 0 → (runs k.acts e w (said c) []).end ≡ 0 →
    (h₁ ≡ stopped_house (after h c)) × ((runs k.acts e w (said c) []).told ≡ shows h c))
    × Right known pages e w₁ h₁ is

-- THE MAIN PROMISE, for all pages there may be, whatever happens, and however often the first waking is cut short
unfoldable pub Whole : (Command → Bool) → Engine → Type 0
Whole known e =
    Steady e
    × ((pages : ℕ) (ks : List Cut) (is : List Item) → 64 ≤ pages → pages ≤ 1048576 → length is ≤ 4294967296 → every proper is ≡ true →
    (w₁ : World) × Wakes e (again e (world (record { pages = blank pages; queue = [] }) e.start) ks) w₁ × Right known pages e w₁ (house [] [] 0 0) is)

-- What was settled stays, whatever a stop leaves of later writes to other pages.
abbrev pub SettledStays : Type 0
SettledStays =
    (d : Device) (qs : List Write) (cs : List ℕ) (k : ℕ) → elsewhere k qs ≡ true →
    page_at (stopped (record { pages = (flushed d).pages; queue = qs }) cs).pages k ≡ read_page d k

-- A stop twice leaves what a stop once does; and nothing is seen after a stop that wasn't seen before it.
abbrev pub StopTwice : Type 0
StopTwice = (h : House) → stopped_house (stopped_house h) ≡ stopped_house h

abbrev pub NothingNew : Type 0
NothingNew =
    (h : House) (us : List Version) (k : List ℕ) (s : ℕ) (v : Version) → h.versions ≡ h.safe ++ us → latest (stopped_house h).versions k s ≡ v ∷ [] →
    any (λ u. same u.key k && u.moment == v.moment) h.versions ≡ true
