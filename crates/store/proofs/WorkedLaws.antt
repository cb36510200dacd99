-- The worked example, computed.
use Rattle.std.proofs.Common.{refl}
use Rattle.value.specs.Rising.{last_moment}
use Rattle.value.specs.Versions.{every, any, those, each, none_of, same, before, latest, insert_key, all_keys, seen_of, from_key, up_to_key, later_below, kept, added_up}
use Rattle.store.specs.House.{refusal, after, last_of, shows}
use Rattle.store.specs.Worked.{WorkedOut}

pub worked_out : WorkedOut
unfolding last_moment every any those each none_of same before latest insert_key all_keys seen_of from_key up_to_key later_below kept added_up refusal after last_of shows
worked_out = (refl, refl)
