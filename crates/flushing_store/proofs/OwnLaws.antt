-- The machine keeps the main promise.
use Rattle.std.proofs.Common.{refl}
use Rattle.store.specs.House.{Command, write, erase, get, range, first_key, last_key, count, flush, compact, core}
use Rattle.store.specs.Account.{Serves, Obligations}
use Rattle.flushing_store.specs.Own.{own, OwnWhole}
use Rattle.store.proofs.WholeLaws.{whole_of}
use Rattle.flushing_store.proofs.SteadyLaws.{steady}
use Rattle.flushing_store.proofs.WholeAccount.{account}
use Rattle.flushing_store.proofs.PowerServes.{fresh, wakes_up, wakes_on, waking_stops, idle_stops}
use Rattle.flushing_store.proofs.WriteServes.{write_serves, erase_serves}
use Rattle.flushing_store.proofs.GetServes.{get_serves}
use Rattle.flushing_store.proofs.FlushServes.{flush_serves}
use Rattle.flushing_store.proofs.UnheardServes.{unheard_serves}

serves : (c : Command) → Serves core own account c
unfolding core
serves (write k m v) = write_serves k m v
serves (erase k m) = erase_serves k m
serves (get k s) = get_serves k s
serves (range a b s) = unheard_serves (range a b s) refl
serves (first_key s) = unheard_serves (first_key s) refl
serves (last_key s) = unheard_serves (last_key s) refl
serves (count s) = unheard_serves (count s) refl
serves flush = flush_serves
serves (compact t) = unheard_serves (compact t) refl

obligations : Obligations core own account
obligations = record { fresh = fresh; wakes_up = wakes_up; wakes_on = wakes_on; waking_stops = waking_stops; idle_stops = idle_stops; serves = serves }

pub own_whole : OwnWhole
own_whole = whole_of core own account obligations steady
