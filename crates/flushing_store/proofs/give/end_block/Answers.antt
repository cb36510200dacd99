use Rattle.std.proofs.Common.{take, drop, ap, ◌∙◌, eq-eqb, ne_eqb}
use Rattle.table.specs.Layout.{entry}
use Rattle.flushing_store.specs.Octets.{put_octets}
use Rattle.flushing_store.specs.Give.{ended_block}
use Rattle.store.proofs.RegionLaws.{within_is}
use Rattle.flushing_store.proofs.give.end_block.Goals as goal

pub returns-then-writer-eq0 : goal.returns-then-writer-eq0
unfolding ended_block
returns-then-writer-eq0 c = simp (eq-eqb c.args.writer.block.count 0 c.if-writer-eq0.true)

pub returns : goal.returns
unfolding ended_block
returns c =
    let w = c.args.writer in
    let m = c.args.memory.now in
    rw (ne_eqb w.block.count 0 c.if-writer-eq0.false)
    (within_is 152016 504 (put_octets w.positions.fill (entry w.block.begin w.block.used)) m c.put_octets.new.row
    (c.put_octets.ensures ∙ ap (λ x. put_octets w.positions.fill x (take 504 (drop 152016 m))) c.entry_of.ensures))
