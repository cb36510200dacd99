use Rattle.flushing_store.specs.Control.{control, control_of}
use Rattle.flushing_store.proofs.words.load.Goals as goal

pub returns : goal.returns
unfolding control_of
returns c = λ i. control (c.part.ensures i) (c.part-2.ensures i) (c.part-3.ensures i) (c.part-4.ensures i)
