-- The machine's memory: 64 words of control, 16,384 of the memtable's index, 131,072 of its arena.
--   control_of m       the control words, as a struct
--   put_control m k    the memory with other control words; every number is cut to 64 bits
--   region a n m       n words from a on
--   within a n f m     the memory with f done to them
use Rattle.std.specs.Prelude.{ℕ, List, ◌==◌, slice_index, slice_set}
use Rattle.value.specs.Versions.{pick}
use Rattle.memtable.specs.Memtable.{memtable}
use Rattle.memtable.specs.declared.memtable.Memtable.{Memtable}
use Rattle.store.specs.declared.control.Phase.{Phase}
use Rattle.store.specs.declared.control.Phase.TheVariants.{Idle, Shown}
use Rattle.store.specs.declared.control.Control.{Control}
use Rattle.store.specs.Regions.{wrap}

abbrev pub memory_words : ℕ
memory_words = 147520

abbrev pub phase_of : ℕ → Phase
phase_of n = pick (n == 1) Shown Idle

abbrev pub phase_number : Phase → ℕ
phase_number Idle = 0
phase_number Shown = 1

abbrev pub control : Phase → ℕ → ℕ → Memtable → Control
control p n l t = record { phase = p; pages = n; last = l; table = t }

unfoldable pub control_of : List ℕ → Control
control_of m = control (phase_of (slice_index m 0)) (slice_index m 1) (slice_index m 2) (memtable (slice_index m 3) (slice_index m 4) (slice_index m 5))

unfoldable pub put_control : List ℕ → Control → List ℕ
put_control m k =
    slice_set (slice_set (slice_set (slice_set (slice_set (slice_set m 0 (phase_number k.phase)) 1 (wrap k.pages)) 2 (wrap k.last)) 3 (wrap k.table.versions)) 4 (wrap k.table.used)) 5 (wrap k.table.weight)
