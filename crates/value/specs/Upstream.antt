-- What upstream's own tests expect of its two streams, as data: a row is a sorted run, keys ascending and of one key the newest first; moments are counted down from 999 for
-- each key.
--   put, cut        a version with a value, and an erasure
--   arrived         a run's versions in the order in which they came
--   newest          of each key the latest version below a moment, erasures among them
--   StreamsAgree   the rows on which the definitions answer as upstream does
--   StreamsDiffer  the rows on which they differ on purpose, with their own answer
use Rattle.std.specs.Prelude.{◌≡◌, ℕ, true, false, List, [], ◌∷◌, codes, nat_le}
use Prim.Native.String.{String}
use Rattle.value.specs.Versions.{pick, every, each, Version, version, all_keys, kept}
use Rattle.value.specs.Rising.{rising}
use Rattle.value.specs.Sorted.{sort, latest_of}

abbrev pub put : String → ℕ → String → Version
put k m v = version (codes k) m false (codes v)

abbrev pub cut : String → ℕ → Version
cut k m = version (codes k) m true []

abbrev pub arrives : Version → List Version → List Version
arrives v [] = v ∷ []
arrives v (u ∷ us) = pick (nat_le v.moment u.moment) (v ∷ u ∷ us) (u ∷ arrives v us)

abbrev pub arrived : List Version → List Version
arrived [] = []
arrived (v ∷ vs) = arrives v (arrived vs)

abbrev pub newest : List Version → ℕ → List Version
newest vs s = latest_of vs s (all_keys vs)

-- a case: a sorted run, the moment that the stream is given, and what comes out
pub record Case : Type 0 where
  pub run : List Version
  pub moment : ℕ
  pub out : List Version

abbrev case : List Version → ℕ → List Version → Case
case r m o = record { run = r; moment = m; out = o }

-- mvcc_stream.rs: the newest version of each key comes out, an erasure too
abbrev pub newest_cases : List Case
newest_cases =
    -- mvcc_queue_reverse_almost_gone
    case (put "a" 999 "a" ∷ cut "b" 999 ∷ put "b" 998 "b" ∷ cut "c" 999 ∷ put "c" 998 "c" ∷ cut "d" 999 ∷ put "d" 998 "d" ∷ cut "e" 999 ∷ put "e" 998 "e" ∷ []) 1000
    (put "a" 999 "a" ∷ cut "b" 999 ∷ cut "c" 999 ∷ cut "d" 999 ∷ cut "e" 999 ∷ [])
    -- mvcc_queue_almost_gone_2
    ∷ case (put "a" 999 "a" ∷ cut "b" 999 ∷ cut "c" 999 ∷ cut "d" 999 ∷ cut "e" 999 ∷ []) 1000
    (put "a" 999 "a" ∷ cut "b" 999 ∷ cut "c" 999 ∷ cut "d" 999 ∷ cut "e" 999 ∷ [])
    -- mvcc_queue
    ∷ case (put "a" 999 "a" ∷ put "b" 999 "b" ∷ put "c" 999 "c" ∷ put "d" 999 "d" ∷ cut "e" 999 ∷ put "e" 998 "e" ∷ []) 1000
    (put "a" 999 "a" ∷ put "b" 999 "b" ∷ put "c" 999 "c" ∷ put "d" 999 "d" ∷ cut "e" 999 ∷ [])
    -- mvcc_stream_simple
    ∷ case (put "a" 999 "new" ∷ put "a" 998 "old" ∷ []) 1000 (put "a" 999 "new" ∷ [])
    -- mvcc_stream_simple_multi_keys
    ∷ case (put "a" 999 "new" ∷ put "a" 998 "old" ∷ put "b" 999 "new" ∷ put "b" 998 "old" ∷ put "c" 999 "newnew" ∷ put "c" 998 "new" ∷ put "c" 997 "old" ∷ []) 1000
    (put "a" 999 "new" ∷ put "b" 999 "new" ∷ put "c" 999 "newnew" ∷ [])
    -- mvcc_tombstone
    ∷ case (cut "a" 999 ∷ put "a" 998 "old" ∷ []) 1000 (cut "a" 999 ∷ [])
    -- mvcc_tombstone_multi_keys
    ∷ case (cut "a" 999 ∷ put "a" 998 "old" ∷ cut "b" 999 ∷ put "b" 998 "old" ∷ cut "c" 999 ∷ cut "c" 998 ∷ put "c" 997 "old" ∷ []) 1000
    (cut "a" 999 ∷ cut "b" 999 ∷ cut "c" 999 ∷ [])
    ∷ []

-- compaction/stream.rs: what a compaction keeps, where the definitions keep the same
abbrev pub kept_cases : List Case
kept_cases =
    -- compaction_stream_simple_no_gc
    case (put "a" 999 "new" ∷ put "a" 998 "old" ∷ []) 0 (put "a" 999 "new" ∷ put "a" 998 "old" ∷ [])
    -- compaction_stream_no_gc_multi
    ∷ case (put "a" 999 "new" ∷ put "a" 998 "old" ∷ put "b" 999 "new" ∷ put "b" 998 "old" ∷ put "c" 999 "newnew" ∷ put "c" 998 "new" ∷ put "c" 997 "old" ∷ []) 0
    (put "a" 999 "new" ∷ put "a" 998 "old" ∷ put "b" 999 "new" ∷ put "b" 998 "old" ∷ put "c" 999 "newnew" ∷ put "c" 998 "new" ∷ put "c" 997 "old" ∷ [])
    -- compaction_stream_evict_tombstones
    ∷ case (cut "a" 999 ∷ cut "b" 999 ∷ cut "c" 999 ∷ []) 1000 []
    -- compaction_stream_old_tombstone
    ∷ case (cut "a" 999 ∷ cut "a" 998 ∷ cut "b" 999 ∷ cut "b" 998 ∷ cut "c" 999 ∷ cut "c" 998 ∷ []) 998
    (cut "a" 999 ∷ cut "a" 998 ∷ cut "b" 999 ∷ cut "b" 998 ∷ cut "c" 999 ∷ cut "c" 998 ∷ [])
    ∷ []

-- a case that differs on purpose: `ours` is the definitions' answer, `theirs` upstream's
pub record Differing : Type 0 where
  pub run : List Version
  pub moment : ℕ
  pub ours : List Version
  pub theirs : List Version

abbrev differing : List Version → ℕ → List Version → List Version → Differing
differing r m o t = record { run = r; moment = m; ours = o; theirs = t }

abbrev pub differing_cases : List Differing
differing_cases =
    -- compaction_stream_gc: the latest version below the moment stays, since a reading at that moment sees it
    differing (put "a" 999 "new" ∷ put "a" 998 "old" ∷ []) 999 (put "a" 999 "new" ∷ put "a" 998 "old" ∷ []) (put "a" 999 "new" ∷ [])
    -- compaction_stream_gc_multi: the same
    ∷ differing (put "a" 999 "new" ∷ put "a" 998 "old" ∷ put "b" 999 "new" ∷ put "b" 998 "old" ∷ put "c" 999 "newnew" ∷ put "c" 998 "new" ∷ put "c" 997 "old" ∷ []) 999
    (put "a" 999 "new" ∷ put "a" 998 "old" ∷ put "b" 999 "new" ∷ put "b" 998 "old" ∷ put "c" 999 "newnew" ∷ put "c" 998 "new" ∷ [])
    (put "a" 999 "new" ∷ put "b" 999 "new" ∷ put "c" 999 "newnew" ∷ [])
    -- compaction_stream_queue_tombstones: an erasure that decides nothing any more is forgotten
    ∷ differing (put "a" 999 "a" ∷ cut "b" 999 ∷ put "b" 998 "b" ∷ cut "c" 999 ∷ put "c" 998 "c" ∷ cut "d" 999 ∷ put "d" 998 "d" ∷ cut "e" 999 ∷ put "e" 998 "e" ∷ []) 1000000
    (put "a" 999 "a" ∷ []) (put "a" 999 "a" ∷ cut "b" 999 ∷ cut "c" 999 ∷ cut "d" 999 ∷ cut "e" 999 ∷ [])
    -- compaction_stream_expired_callback_1: the same
    ∷ differing (cut "a" 999 ∷ cut "a" 998 ∷ cut "a" 997 ∷ []) 1000 [] (cut "a" 999 ∷ [])
    -- compaction_stream_tombstone_no_gc: the same
    ∷ differing (cut "a" 999 ∷ cut "b" 999 ∷ cut "c" 999 ∷ []) 1000000 [] (cut "a" 999 ∷ cut "b" 999 ∷ cut "c" 999 ∷ [])
    -- compaction_stream_seqno_zeroing_1: moments are never set to 0
    ∷ differing (put "a" 999 "3" ∷ put "a" 998 "2" ∷ put "a" 997 "1" ∷ []) 1000 (put "a" 999 "3" ∷ []) (put "a" 0 "3" ∷ [])
    ∷ []

-- every run is the sorted view of what came, and moments rose
abbrev pub RunsStand : List (List Version) → Type 0
RunsStand rs = (each (λ r. sort (arrived r)) rs ≡ rs) × (every (λ r. rising (arrived r)) rs ≡ true)

abbrev pub StreamsAgree : Type 0
StreamsAgree =
    RunsStand (each (λ c. c.run) newest_cases) × RunsStand (each (λ c. c.run) kept_cases)
    × (each (λ c. newest (arrived c.run) c.moment) newest_cases ≡ each (λ c. c.out) newest_cases)
    × (each (λ c. sort (kept c.moment (arrived c.run))) kept_cases ≡ each (λ c. c.out) kept_cases)

abbrev pub StreamsDiffer : Type 0
StreamsDiffer =
    RunsStand (each (λ d. d.run) differing_cases)
    × (each (λ d. sort (kept d.moment (arrived d.run))) differing_cases ≡ each (λ d. d.ours) differing_cases)
