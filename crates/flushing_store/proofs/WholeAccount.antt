-- The account of the machine, put together: each command has its own within.
use Rattle.std.proofs.Common.{ℕ, true, false, List, []}
use Rattle.value.specs.Versions.{version}
use Rattle.store.specs.House.{House, Command, write, erase, get, range, first_key, last_key, count, flush, compact}
use Rattle.store.specs.Promise.{Event, World}
use Rattle.store.specs.Account.{Account}
use Rattle.flushing_store.specs.declared.control.Phase.TheVariants.{Idle}
use Rattle.flushing_store.proofs.OwnAccount.{Durable, Rest, Comes, Gets, Writes, Unheard}
use Rattle.flushing_store.proofs.FlushAccount.{Flushes}

abbrev pub Within : (n pages : ℕ) → House → Command → World → Event → List (List ℕ) → ℕ → Type 0
Within n pages h (write k m v) = Writes n pages h (write k m v) (version k m false v)
Within n pages h (erase k m) = Writes n pages h (erase k m) (version k m true [])
Within n pages h (get k s) = Gets n pages h k s
Within n pages h (range a b s) = Unheard n pages h (range a b s)
Within n pages h (first_key s) = Unheard n pages h (first_key s)
Within n pages h (last_key s) = Unheard n pages h (last_key s)
Within n pages h (count s) = Unheard n pages h (count s)
Within n pages h flush = Flushes n pages h
Within n pages h (compact t) = Unheard n pages h (compact t)

abbrev pub account : Account
account = record {
  Durable = λ n pages vs t ps. Durable n pages vs t ps;
  Waking = λ n pages vs t w ev μ. Comes n pages vs t w ev μ;
  Idle = λ n pages h w. Rest n pages h Idle w;
  Busy = λ n pages h c w ev ts μ. Within n pages h c w ev ts μ;
}
