use Rattle.std.proofs.Common.{◌≡◌, ◌*◌, ◌≤◌, drop, length}
use Rattle.std.specs.Slice.Iter.{chunks_rest, chunks_size}
use lib.Seq.{paste}
use Rattle.memtable.specs.Words.{pack, words}
use Rattle.memtable.proofs.words.put_bytes.Given as goal

-- the words so far are written, and the bytes behind them are left
abbrev pub invariant-loop-k : goal.invariant-loop-k
invariant-loop-k l = record {
  written : l.ws ≡ paste l.initial.ws l.at (pack l.bs) l.k-iterator.count;
  left : chunks_rest l.k-iterator.iter ≡ drop (8 * l.k-iterator.count) l.bs;
  size : chunks_size l.k-iterator.iter ≡ 8;
  within : l.k-iterator.count ≤ words (length l.bs);
}
