use Rattle.std.proofs.Common.{◌++◌, take, drop, ap, ◌∙◌}
use Rattle.value.specs.Said.{said}
use Rattle.memtable.specs.Arena.{appended}
use Rattle.memtable.specs.Index.{entered}
use Rattle.store.specs.Regions.{in_arena, in_index}
use Rattle.store.proofs.RegionLaws.{within_is}
use Rattle.store.proofs.regions.put_in_table.Goals as goal

pub returns : goal.returns
unfolding in_index in_arena
returns c =
    let m = c.args.memory.now in
    let t = c.args.table in
    let m₁ = take 16448 m ++ (c.append.new.arena ++ drop 131072 (drop 16448 m)) in
    within_is 64 16384 (λ x. entered x t.versions c.args.place t.used) m₁ c.enter.new.index c.enter.ensures
    ∙ ap (in_index t c.args.place) (within_is 16448 131072 (λ x. appended x t.used (said c.args.version)) m c.append.new.arena c.append.ensures)
