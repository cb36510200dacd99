-- An account of the machine: what holds at rest, at power-on, between commands and within one. Each command's within has a type of its own.
use Rattle.std.proofs.Common.{◌≡◌, ℕ, suc, ◌+◌, ◌-◌, ◌*◌, ◌<◌, ◌≤◌, true, List, [], length}
use Rattle.value.specs.Versions.{Version, latest}
use Rattle.value.specs.Encoding.{fits}
use Rattle.memtable.specs.Words.{bytes}
use Rattle.memtable.specs.Memtable.{none}
use Rattle.memtable.specs.Arena.{key_at, moment_at}
use Rattle.table.specs.Device.{Page, page_at}
use Rattle.table.specs.Lookup.{Looking}
use Rattle.table.specs.declared.lookup.Lookup.{Lookup}
use Rattle.table.specs.declared.lookup.Stage.{Stage}
use Rattle.table.specs.declared.lookup.Stage.TheVariants.{Entry, Head, Block}
use Rattle.manifest.specs.Manifest.{manifest_in, is_whole}
use Rattle.manifest.specs.declared.fields.Manifest.{Manifest}
use Rattle.store.specs.House.{House, Command, get, small_command, shows}
use Rattle.store.specs.Promise.{Event, on, said, page, next, World}
use Rattle.flushing_store.specs.Control.{memory_words, base, control_of, stage_region, ring_of}
use Rattle.flushing_store.specs.Stage.{staged_version}
use Rattle.flushing_store.specs.Look.{extent_of}
use Rattle.flushing_store.specs.Power.{first_phase}
use Rattle.flushing_store.specs.declared.control.Phase.{Phase}
use Rattle.flushing_store.specs.declared.control.Phase.TheVariants.{Idle, Shown, FirstList, Getting, Writing}
use Rattle.flushing_store.proofs.RegionLaws.{SmallLookup}
use Rattle.flushing_store.proofs.StoredLaws.{Stored}
use Rattle.flushing_store.proofs.HeldLaws.{Held}

-- AT REST: some list of tables holds, and names these versions
pub record Durable (n pages : ℕ) (vs : List Version) (t : ℕ) (ps : List Page) : Type 0 where
  pub list : Manifest
  pub commits : list.commit ≤ n
  pub low : t ≡ 0
  pub stored : Stored pages vs list ps

-- BETWEEN COMMANDS, and within one that puts no page: nothing waits, and memory holds the house
pub record Rest (n pages : ℕ) (h : House) (p : Phase) (w : World) : Type 0 where
  pub list : Manifest
  pub commits : list.commit ≤ n
  pub quiet : w.device.queue ≡ []
  pub stored : Stored pages h.safe list w.device.pages
  pub held : Held pages h list p w.memory

-- POWER COMES: page 0 is asked for, and then page 1
pub data Comes (n pages : ℕ) (vs : List Version) (t : ℕ) (w : World) (ev : Event) (μ : ℕ) : Type 0 where
  starts : Durable n pages vs t w.device.pages → w.device.queue ≡ [] → length w.memory ≡ memory_words → ev ≡ on pages → μ ≡ 2 → Comes n pages vs t w ev μ
  first :
      Durable n pages vs t w.device.pages → w.device.queue ≡ [] → length w.memory ≡ memory_words → (control_of w.memory).base ≡ base FirstList pages 0 none →
      ev ≡ page (page_at w.device.pages 0) → μ ≡ 1 → Comes n pages vs t w ev μ
  second :
      Durable n pages vs t w.device.pages → w.device.queue ≡ [] → length w.memory ≡ memory_words →
      (control_of w.memory).base ≡ base (first_phase (is_whole (page_at w.device.pages 0))) pages 0 none → (control_of w.memory).manifest ≡ manifest_in (page_at w.device.pages 0) →
      ev ≡ page (page_at w.device.pages 1) → μ ≡ 0 → Comes n pages vs t w ev μ

-- A LOOKUP for a key at a moment: a page is wanted, and comes next
abbrev pub stage_left : Stage → ℕ
stage_left Entry = 8
stage_left Head = 7
stage_left Block = 4

abbrev pub lookup_left : Lookup → ℕ
lookup_left l = 8 * (l.search.high - l.search.low) + stage_left l.stage - l.load.got

abbrev pub most_lookups : Manifest → ℕ
most_lookups f = 8 * f.table.blocks + 9

pub record Looks (h : House) (f : Manifest) (w : World) (key : List ℕ) (s : ℕ) (ev : Event) (μ : ℕ) : Type 0 where
  pub small : SmallLookup (control_of w.memory).lookup
  pub staged_key : key_at (stage_region w.memory) 0 ≡ key
  pub looking : Looking (extent_of f) w.device.pages h.safe key s (control_of w.memory).lookup (ring_of w.memory)
  pub wants : (control_of w.memory).lookup.load.got < (control_of w.memory).lookup.load.span.pages
  pub event : ev ≡ page (page_at w.device.pages ((control_of w.memory).lookup.load.span.page + (control_of w.memory).lookup.load.got))
  pub left : μ ≡ lookup_left (control_of w.memory).lookup

-- WITHIN A GET
pub data Gets (n pages : ℕ) (h : House) (key : List ℕ) (s : ℕ) (w : World) (ev : Event) (ts : List (List ℕ)) (μ : ℕ) : Type 0 where
  begun : (r : Rest n pages h Idle w) → small_command (get key s) ≡ true → ev ≡ said (get key s) → ts ≡ [] → μ ≡ most_lookups r.list → Gets n pages h key s w ev ts μ
  looking :
      (r : Rest n pages h Getting w) → s < 18446744073709551616 → bytes key ≡ true → latest r.held.fresh key s ≡ [] → moment_at (stage_region w.memory) 0 ≡ s →
      Looks h r.list w key s ev μ → ts ≡ [] → Gets n pages h key s w ev ts μ
  shown : Rest n pages h Shown w → ev ≡ next → ts ≡ shows h (get key s) → μ ≡ 0 → Gets n pages h key s w ev ts μ

-- WITHIN A WRITE OR AN ERASURE, which is to give this version: it passed all checks up to the table's
pub data Writes (n pages : ℕ) (h : House) (c : Command) (v : Version) (w : World) (ev : Event) (ts : List (List ℕ)) (μ : ℕ) : Type 0 where
  begun : (r : Rest n pages h Idle w) → small_command c ≡ true → ev ≡ said c → ts ≡ [] → μ ≡ most_lookups r.list → Writes n pages h c v w ev ts μ
  looking :
      (r : Rest n pages h Writing w) → fits v ≡ true → h.last ≤ v.moment → staged_version w.memory ≡ v → moment_at (stage_region w.memory) 0 ≡ v.moment →
      Looks h r.list w v.key (suc v.moment) ev μ → ts ≡ [] → Writes n pages h c v w ev ts μ

-- WITHIN A COMMAND THAT IS NOT KNOWN
pub data Unheard (n pages : ℕ) (h : House) (c : Command) (w : World) (ev : Event) (ts : List (List ℕ)) (μ : ℕ) : Type 0 where
  begun : Rest n pages h Idle w → ev ≡ said c → ts ≡ [] → Unheard n pages h c w ev ts μ
