-- Why the store refused, by the number that it tells.
use Rattle.std.specs.Prelude.{ℕ, cond, List, codes, ◌==◌}
use Rattle.store.specs.declared.told.Refusal.{Refusal}
use Rattle.store.specs.declared.told.Refusal.TheVariants.{Misfit, Unknown, Moment, Compacted, Limits, Unsafe, Full}

abbrev pub reason_of : Refusal → List ℕ
reason_of Misfit = codes "a key or a value has more than 4,096 bytes"
reason_of Unknown = codes "not known yet"
reason_of Moment = codes "the moment is below the last write's, or the key was written at it"
reason_of Compacted = codes "the moment is below the last that was compacted, or, to compact, above the last write's"
reason_of Limits = codes "a key is empty or has more than 255 bytes, a value more than 1,024, or the moment is 2^63 or more"
reason_of Unsafe = codes "what is not safe would weigh more than 1,048,576: flush first"
reason_of Full = codes "what has to be kept would weigh more than a quarter of the pages' bytes: compact first"

abbrev pub why : ℕ → List ℕ
why k =
    cond (k == 0) (reason_of Misfit) (cond (k == 2) (reason_of Unknown) (cond (k == 3) (reason_of Moment) (cond (k == 4) (reason_of Compacted)
    (cond (k == 6) (reason_of Limits) (cond (k == 7) (reason_of Unsafe) (cond (k == 8) (reason_of Full) (codes "no reason is known")))))))
