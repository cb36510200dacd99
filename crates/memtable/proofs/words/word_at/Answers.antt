use Rattle.memtable.proofs.WordLaws.{word_part}
use Rattle.memtable.proofs.words.word_at.Goals as goal

pub returns : goal.returns
returns c = word_part c.args.bs.now _ c.args.k _ c.part_of.ensures c.first_word.ensures
