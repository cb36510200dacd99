-- Where a merge puts the new table, and the list that names it. All is a function of the control state, and stays the same while the merge goes on but for what was put.
--   new_weight k       what table and memory weigh together
--   new_start k        the first page of positions: the free half begins with it
--   new_data k         the first page of data
--   new_size k         its pages, those of data as they were put
--   next_manifest k    the list
use Rattle.std.specs.Prelude.{ℕ, ◌+◌, true}
use Rattle.table.specs.Sizes.{position_pages}
use Rattle.manifest.specs.Places.{half_start, other}
use Rattle.manifest.specs.declared.fields.Manifest.{Manifest}
use Rattle.store.specs.Regions.{wrap}
use Rattle.flushing_store.specs.declared.control.Control.{Control}

abbrev pub new_weight : Control → ℕ
new_weight k = wrap (k.manifest.weight.all + k.base.table.weight)

abbrev pub new_start : Control → ℕ
new_start k = half_start k.base.pages (other k.manifest.layout.half)

abbrev pub new_data : Control → ℕ
new_data k = wrap (new_start k + position_pages (new_weight k))

abbrev pub new_size : Control → ℕ
new_size k = wrap (position_pages (new_weight k) + k.merging.writer.stream.put)

unfoldable pub next_manifest : Control → Manifest
next_manifest k = record {
  commit = wrap (k.manifest.commit + 1);
  layout = record { pages = k.base.pages; half = other k.manifest.layout.half; free = new_size k };
  moments = record { last = k.base.last; low = k.manifest.moments.low };
  weight = record { all = new_weight k; exact = true };
  tables = 1;
  table = record { start = new_start k; data_at = new_data k; size = new_size k; blocks = k.merging.writer.block.count; level = 0; latest = k.base.last };
}
