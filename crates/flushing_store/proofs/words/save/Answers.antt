use Rattle.flushing_store.specs.Control.{put_control}
use Rattle.flushing_store.proofs.words.save.Goals as goal

pub returns : goal.returns
unfolding put_control
returns c =
    simp (c.put_words.ensures, c.put_words-2.ensures, c.put_words-3.ensures, c.put_words-4.ensures, c.into_words.ensures, c.into_words-2.ensures, c.into_words-3.ensures, c.into_words-4.ensures)
