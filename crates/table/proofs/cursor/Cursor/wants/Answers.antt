use Rattle.std.proofs.Common.{ℕ, ◌+◌, ◌*◌, ◌%◌, drop, ap, arith}
use Rattle.table.specs.declared.lookup.Entry.{Entry}
use Rattle.table.proofs.RowLaws.{octets_small}
use Rattle.table.proofs.cursor.Cursor.wants.Goals as goal

pub overflow_add-entry : goal.overflow_add-entry
overflow_add-entry c =
    let at : ℕ = 8 * (c.args.self.block % 63) in
    let list = c.args.list.now in
    omega (arith, ap (λ (e : Entry). e.begin) c.entry-entry.ensures, ap (λ (e : Entry). e.len) c.entry-entry.ensures, octets_small (drop at list), octets_small (drop (at + 4) list))
