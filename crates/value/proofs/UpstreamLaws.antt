-- Upstream's cases, computed.
use Rattle.std.proofs.Common.{refl}
use Rattle.value.specs.Versions.{every, any, each, same, before, none_of, latest, insert_key, all_keys, later_below, kept}
use Rattle.value.specs.Rising.{rising}
use Rattle.value.specs.Sorted.{insert_old, sort, latest_of}
use Rattle.value.specs.Upstream.{StreamsAgree, StreamsDiffer}

pub streams_agree : StreamsAgree
unfolding every any each same before none_of latest insert_key all_keys later_below kept rising insert_old sort latest_of
streams_agree = ((refl, refl), (refl, refl), refl, refl)

pub streams_differ : StreamsDiffer
unfolding every any each same before none_of later_below kept rising insert_old sort
streams_differ = ((refl, refl), refl)
