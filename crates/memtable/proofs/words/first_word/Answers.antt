use Rattle.std.proofs.Common.{arith}
use Rattle.memtable.proofs.WordLaws.{first_is_word}
use Rattle.memtable.proofs.words.first_word.Goals as goal

pub returns : goal.returns
returns c = first_is_word c.args.bs.now _ _ (λ i. omega (arith, c.type_inv.bs i)) c.padded.ensures c.from_be_bytes.ensures
