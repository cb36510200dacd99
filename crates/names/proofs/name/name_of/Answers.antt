use Rattle.std.proofs.Common.{codes, arith}
use Rattle.std.proofs.lemmas.Slice.Eq.{text_from_reads}
use Rattle.names.proofs.name.name_of.Goals as goal

pub returns-in-compact : goal.returns-in-compact
returns-in-compact c =
    let text = text_from_reads c.args.bytes.now (codes "compact") (omega arith) (omega arith, (omega arith, (omega arith, (omega arith, (omega arith, (omega arith, (omega arith, tt))))))) in
    rw text
