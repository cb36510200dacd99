-- A step of the machine, and a stop where nothing waits: what all commands share.
use Rattle.std.proofs.Common.{◌≡◌, ℕ, suc, true, List, [], length, sym, refl, ap, ◌∙◌, subst, arith, eq-eqb}
use lib.ListN.{length-replicate}
use Rattle.table.specs.Device.{Device, Page, page_at, all_written, read_page, left, a_page}
use Rattle.store.specs.House.{House}
use Rattle.store.specs.Promise.{Event, page, World}
use Rattle.store.specs.Account.{leavings}
use Rattle.flushing_store.specs.Control.{memory_words, control_of}
use Rattle.flushing_store.specs.Own.{paged_by, turned, blank_memory, own}
use Rattle.flushing_store.specs.declared.control.Phase.{Phase}
use Rattle.flushing_store.proofs.StoredLaws.{page_cut}
use Rattle.flushing_store.proofs.OwnAccount.{Durable, Rest}

-- a step of a memory of the right length
pub step_is : (m : List ℕ) (ev : Event) → length m ≡ memory_words → own.step m ev ≡ turned (control_of m) m ev
unfolding own
step_is m ev l = rw (eq-eqb (length m) memory_words l) refl

pub start_long : length own.start ≡ memory_words
unfolding own blank_memory
start_long = length-replicate {A = ℕ} memory_words 0

-- a page of the device comes, in a phase
pub page_step_is : (m : List ℕ) (p : Page) (q : Phase) → length m ≡ memory_words → a_page p ≡ true → (control_of m).base.phase ≡ q → own.step m (page p) ≡ paged_by (control_of m) m p q
unfolding turned
page_step_is m p q l a e = step_is m (page p) l ∙ (λ i. paged_by (control_of m) m (page_cut p a i) (e i))

-- where nothing waits, pages are read as they are, and a stop leaves them
pub read_quiet : (d : Device) (k : ℕ) → d.queue ≡ [] → read_page d k ≡ page_at d.pages k
unfolding all_written
read_quiet d k e = ap (λ q. page_at (all_written d.pages q) k) e

pub left_quiet : (w : World) (cs : List ℕ) → w.device.queue ≡ [] → leavings w cs ≡ w.device.pages
unfolding left
left_quiet w cs e = rw e refl

pub durable_stops : (n pages : ℕ) (h : House) (w : World) → w.device.queue ≡ [] → Durable n pages h.safe h.low w.device.pages → (cs : List ℕ) → Durable n pages h.safe h.low (leavings w cs)
durable_stops n pages h w q d cs = subst (λ ps. Durable n pages h.safe h.low ps) (sym (left_quiet w cs q)) d

pub rest_stops : (n pages : ℕ) (h : House) (p : Phase) (w : World) → Rest n pages h p w → (cs : List ℕ) → Durable n pages h.safe h.low (leavings w cs)
rest_stops n pages h p w r cs = durable_stops n pages h w r.quiet record { list = r.list; commits = r.commits; low = r.held.none_low; stored = r.stored } cs

-- one command more was said
pub said_more : (n pages : ℕ) (h : House) (p : Phase) (w : World) → Rest n pages h p w → Rest (suc n) pages h p w
said_more n pages h p w r = record { list = r.list; commits = omega (arith, r.commits); quiet = r.quiet; stored = r.stored; held = r.held }
