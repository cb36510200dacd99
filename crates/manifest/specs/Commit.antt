-- How the list of tables changes at once. Commit n goes to page n % 2, so that the list before it stays on the other page; a page of which a stop
-- left the first half has two different commit numbers, and does not count.
--   found_in p        what a page says, and whether it is whole
--   later_of a b      which of two found lists holds
--   chosen ps         the list that power-on finds
--   list_write m      the write that commits a list
--   torn n ps         the pages after a stop that left the first half of that write
--   torn_often ns k ps     after k such stops, with any lists
--   Committed m ps    the pages hold this list: its page is whole and says it, and the number in the other page's second half is lower
--   Next m n          n may be put after m
use Rattle.std.specs.Prelude.{◌≡◌, ℕ, zero, suc, ◌-◌, ◌<◌, ◌≤◌, true, false, ◌⊎◌, List, [], ◌∷◌, length, nat_lt}
use Rattle.value.specs.Versions.{pick}
use Rattle.table.specs.Device.{Page, Write, set_page, page_at, all_written, left, half, elsewhere, blank}
use Rattle.manifest.specs.declared.fields.Half.{Half}
use Rattle.manifest.specs.declared.fields.Manifest.{Manifest}
use Rattle.manifest.specs.declared.choice.Found.{Found}
use Rattle.manifest.specs.Manifest.{word_at, manifest_page, manifest_in, is_whole, empty_manifest, Fits}
use Rattle.manifest.specs.Places.{other, slot_of, InHalf, in_half}

abbrev pub found_in : Page → Found
found_in p = record { whole = is_whole p; manifest = manifest_in p }

abbrev pub later_of : Found → Found → Manifest
later_of a b =
    pick a.whole (pick b.whole (pick (nat_lt a.manifest.commit b.manifest.commit) b.manifest a.manifest) a.manifest) b.manifest

abbrev pub chosen : List Page → Manifest
chosen ps = later_of (found_in (page_at ps 0)) (found_in (page_at ps 1))

abbrev pub list_write : Manifest → Write
list_write m = record { at = slot_of m.commit; page = manifest_page m }

pub record Committed (m : Manifest) (ps : List Page) : Type 0 where
  pub room : 3 ≤ length ps
  pub says : manifest_in (page_at ps (slot_of m.commit)) ≡ m
  pub whole : is_whole (page_at ps (slot_of m.commit)) ≡ true
  pub older : word_at 62 (page_at ps (slot_of (suc m.commit))) ≤ m.commit - 1

pub record Next (m n : Manifest) : Type 0 where
  pub number : n.commit ≡ suc m.commit
  pub fits : Fits n

abbrev pub torn : Manifest → List Page → List Page
torn n ps = set_page ps (slot_of n.commit) (half (manifest_page n) (page_at ps (slot_of n.commit)))

unfoldable pub torn_often : (ℕ → Manifest) → ℕ → List Page → List Page
torn_often ns zero ps = ps
torn_often ns (suc k) ps = torn (ns k) (torn_often ns k ps)

-- THE STATEMENTS. Power-on finds the list that the pages hold.
abbrev pub ChoiceRight : Type 0
ChoiceRight = (m : Manifest) (ps : List Page) → Committed m ps → chosen ps ≡ m

-- A page of which only the first half was written, over an older number, is not whole.
abbrev pub TornTold : Type 0
TornTold = (n : Manifest) (old : Page) → Fits n → word_at 62 old < n.commit → is_whole (half (manifest_page n) old) ≡ false

-- A stop while the next list waits leaves the list before it, or that one.
abbrev pub StopKeepsList : Type 0
StopKeepsList =
    (m n : Manifest) (ps : List Page) (cs : List ℕ) → Committed m ps → Next m n →
    Committed m (left ps (list_write n ∷ []) cs) ⊎ Committed n (left ps (list_write n ∷ []) cs)

-- Lists torn on the same page, one after the other, leave the list before them.
abbrev pub TornAgain : Type 0
TornAgain = (m : Manifest) (ns : ℕ → Manifest) (k : ℕ) (ps : List Page) → Committed m ps → ((i : ℕ) → Next m (ns i)) → Committed m (torn_often ns k ps)

-- Once settled, the next list is the one that the pages hold.
abbrev pub SettledIsNext : Type 0
SettledIsNext = (m n : Manifest) (ps : List Page) → Committed m ps → Next m n → Committed n (all_written ps (list_write n ∷ []))

-- A list that is put touches no page behind the two.
abbrev pub ListApart : Type 0
ListApart = (n : Manifest) (k : ℕ) → 2 ≤ k → elsewhere k (list_write n ∷ []) ≡ true

-- Blank pages hold the empty list.
abbrev pub BlankIsEmpty : Type 0
BlankIsEmpty = (n : ℕ) → 64 ≤ n → n ≤ 1048576 → Committed empty_manifest (blank n)

-- What is put in the free half touches no list and no page of the half in use, whatever a stop leaves of it, and when it is settled.
pub record FreeHalfApart : Type 0 where
  pub apart : (n : ℕ) (h : Half) (qs : List Write) (k : ℕ) → in_half n (other h) qs ≡ true → (k < 3) ⊎ InHalf n h k → elsewhere k qs ≡ true
  pub kept_left : (n : ℕ) (h : Half) (ps : List Page) (qs : List Write) (cs : List ℕ) (k : ℕ) → in_half n (other h) qs ≡ true → (k < 3) ⊎ InHalf n h k →
      page_at (left ps qs cs) k ≡ page_at ps k
  pub kept_settled : (n : ℕ) (h : Half) (ps : List Page) (qs : List Write) (k : ℕ) → in_half n (other h) qs ≡ true → (k < 3) ⊎ InHalf n h k →
      page_at (all_written ps qs) k ≡ page_at ps k
  pub list_left : (m : Manifest) (n : ℕ) (h : Half) (ps : List Page) (qs : List Write) (cs : List ℕ) → in_half n h qs ≡ true → Committed m ps → Committed m (left ps qs cs)
  pub list_settled : (m : Manifest) (n : ℕ) (h : Half) (ps : List Page) (qs : List Write) → in_half n h qs ≡ true → Committed m ps → Committed m (all_written ps qs)
