use Rattle.std.proofs.Common.{sym, refl, arith}
use Rattle.value.specs.Said.{said}
use Rattle.value.proofs.EncodingLaws.{limits_parts, room_true, room_limits, room_short, all_put}
use Rattle.value.proofs.version.encode.Goals as goal

pub returns-then-not-in_limits : goal.returns-then-not-in_limits
returns-then-not-in_limits c =
    let e = room_limits (said c.args.version) c.args.out.now (sym c.if-not-in_limits.ensures) in
    record { len = rw e refl; bytes = rw e refl }

pub overflow_add-len-2 : goal.overflow_add-len-2
overflow_add-len-2 c = let l = limits_parts _ _ _ _ (sym c.if-not-in_limits.ensures) in omega arith

pub returns-then-out-len : goal.returns-then-out-len
returns-then-out-len c =
    let e = room_short (said c.args.version) c.args.out.now c.if-out-len.true in
    record { len = rw e refl; bytes = rw e refl }

pub head_of-requires : goal.head_of-requires
head_of-requires c = let l = limits_parts _ _ _ _ (sym c.if-not-in_limits.ensures) in (l.short, l.small)

pub returns : goal.returns
returns c =
    let v = said c.args.version in
    let e = room_true v c.args.out.now (sym c.if-not-in_limits.ensures) (omega arith) in
    let b = all_put v _ c.args.out.now c.head_of.ensures in
    record { len = rw e refl; bytes = rw e (simp (c.put-3.ensures, c.put-2.ensures, c.put.ensures) b) }
