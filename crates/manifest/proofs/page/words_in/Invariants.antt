use Rattle.std.proofs.Common.{◌≡◌, ℕ, ◌<◌, ◌≤◌, length, get_or}
use Rattle.manifest.specs.Manifest.{word_at}
use Rattle.manifest.proofs.page.words_in.Given as goal

-- the words so far are read, and the others are 0
abbrev pub invariant-words : goal.invariant-words
invariant-words l =
    (length l.words ≡ 14) × ((k : ℕ) → k < l.i → get_or l.words k 0 ≡ word_at k l.page) × ((k : ℕ) → l.i ≤ k → get_or l.words k 0 ≡ 0)
