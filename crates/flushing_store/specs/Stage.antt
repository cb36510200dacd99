-- The version that a command under way is about, in a region of memory of its own.
--   staged v m      the memory with v there
--   staged_version m    the version there; of its value no more than 1,024 bytes count
use Rattle.std.specs.Prelude.{ℕ, List, take}
use Rattle.value.specs.Versions.{Version, version}
use Rattle.memtable.specs.Arena.{appended, key_at, value_at, moment_at, gone_at}
use Rattle.flushing_store.specs.Control.{stage_region}
use Rattle.store.specs.Regions.{within}

unfoldable pub staged : Version → List ℕ → List ℕ
staged v m = within 147520 162 (λ x. appended x 0 v) m

-- as it is read from any words
unfoldable pub version_of : List ℕ → ℕ → Version
version_of ws p = version (key_at ws p) (moment_at ws p) (gone_at ws p) (take 1024 (value_at ws p))

abbrev pub staged_version : List ℕ → Version
staged_version m = version_of (stage_region m) 0
