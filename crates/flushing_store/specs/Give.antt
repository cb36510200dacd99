-- A version is handed over to the writer of a table.
--   bound_after n m k   the bound of a block that begins with this key, where n blocks were begun before: the version that was handed over last is staged
--   brought b s v       what a version brings: a bound where it begins a block, and its encoding
--   ended_block w m     the memory with the entry of the block being written on the page of positions
--   in_hand bs m        the memory with these bytes in the writer's hand
--   given_writer, given_memory     writer and memory when v was handed over; none, and the same, where v is outside the limits
use Rattle.std.specs.Prelude.{ℕ, Bool, List, [], ◌++◌, Some, None, Option, ◌==◌}
use Rattle.value.specs.Versions.{pick, same, Version, version}
use Rattle.value.specs.Numbers.{bytes_of}
use Rattle.value.specs.Encoding.{in_limits, encoding, encoded_length}
use Rattle.memtable.specs.Arena.{key_at, moment_at}
use Rattle.table.specs.Blocks.{no_bound}
use Rattle.table.specs.Layout.{entry}
use Rattle.table.specs.Writing.{begins, gave}
use Rattle.table.specs.declared.writer.Writer.{Writer}
use Rattle.flushing_store.specs.Control.{stage_region}
use Rattle.store.specs.Regions.{within}
use Rattle.flushing_store.specs.Octets.{put_octets}
use Rattle.flushing_store.specs.Stage.{staged}

abbrev pub bound_after : ℕ → List ℕ → List ℕ → ℕ
bound_after n m k = pick (n == 0) no_bound (pick (same (key_at (stage_region m) 0) k) (moment_at (stage_region m) 0) no_bound)

abbrev pub brought : Bool → ℕ → Version → List ℕ
brought b s v = pick b (bytes_of 8 s ++ encoding v) (encoding v)

unfoldable pub ended_block : Writer → List ℕ → List ℕ
ended_block w m = pick (w.block.count == 0) m (within 152016 504 (put_octets w.positions.fill (entry w.block.begin w.block.used)) m)

unfoldable pub in_hand : List ℕ → List ℕ → List ℕ
in_hand bs m = within 150202 1310 (put_octets 0 bs) m

abbrev pub given_writer : Writer → Version → Option Writer
given_writer w v = pick (in_limits v) (Some (gave w (encoded_length v))) None

-- the block before it is ended where it begins one
abbrev pub with_entry : Bool → Writer → List ℕ → List ℕ
with_entry b w m = pick b (ended_block w m) m

unfoldable pub given_memory : Writer → Version → List ℕ → List ℕ
given_memory w v m =
    pick (in_limits v)
    (staged (version v.key v.moment v.gone [])
    (with_entry (begins w (encoded_length v)) w (in_hand (brought (begins w (encoded_length v)) (bound_after w.block.count m v.key) v) m))) m
