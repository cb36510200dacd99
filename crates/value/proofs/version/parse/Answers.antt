use Rattle.std.proofs.Common.{◌≡◌, true, false, sym, arith}
use Rattle.std.proofs.lemmas.Bool.{both_ways}
use Rattle.value.specs.Encoding.{limits, key_length, moment_in, gone_in, value_length}
use Rattle.value.proofs.EncodingLaws.{none_stands, some_stands, lies_there}
use Rattle.value.proofs.version.parse.Goals as goal

pub returns-then-from-lt-HEAD : goal.returns-then-from-lt-HEAD
returns-then-from-lt-HEAD c = record { is = none_stands _ _ _ c.rest-from.ensures.is (λ s. omega arith); lies = tt }

pub returns-then-mark-ge-UNKNOWN_KIND : goal.returns-then-mark-ge-UNKNOWN_KIND
returns-then-mark-ge-UNKNOWN_KIND c = record { is = none_stands _ _ _ c.rest-from.ensures.is (λ s. omega arith); lies = tt }

pub returns-then-read_u32-ne0 : goal.returns-then-read_u32-ne0
returns-then-read_u32-ne0 c = record { is = none_stands _ _ _ c.rest-from.ensures.is (λ s. omega arith); lies = tt }

pub returns-then-not-in_limits : goal.returns-then-not-in_limits
returns-then-not-in_limits c =
    let from = c.rest-from.result.now in
    let e : limits (key_length from) (moment_in from) (gone_in from) (value_length from) ≡ false = cc in
    record { is = none_stands _ _ _ c.rest-from.ensures.is (λ s. both_ways _ e s.limited); lies = tt }

pub returns-then-from-key_len : goal.returns-then-from-key_len
returns-then-from-key_len c = record { is = none_stands _ _ _ c.rest-from.ensures.is (λ s. omega arith); lies = tt }

pub returns : goal.returns
returns c =
    let from = c.rest-from.result.now in
    let e : limits (key_length from) (moment_in from) (gone_in from) (value_length from) ≡ true = cc in
    let is = some_stands _ _ c.args.at _ c.rest-from.ensures.is (record { long = omega arith; kind = omega arith; arrival = omega arith; limited = e; room = omega arith }) cc in
    record { is = is; lies = lies_there _ _ _ (sym is) }
