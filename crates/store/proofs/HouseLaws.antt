-- What a stop leaves of a house.
use Rattle.std.proofs.Common.{refl}
use Rattle.value.proofs.TestLaws.{any_append}
use Rattle.value.proofs.LatestLaws.{latest_any}
use Rattle.store.specs.Promise.{StopTwice, NothingNew}

pub stop_twice : StopTwice
stop_twice h = refl

pub nothing_new : NothingNew
nothing_new h us k s v e l = rw e (any_append _ h.safe us (latest_any h.safe k s v l))
