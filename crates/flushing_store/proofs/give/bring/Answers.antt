use Rattle.std.proofs.Common.{◌≡◌, ℕ, ◌++◌, drop, replicate, ◌∙◌, arith}
use Rattle.std.proofs.lemmas.List.{length-replicate}
use Rattle.value.specs.Said.{said}
use Rattle.value.specs.Numbers.{bytes_of}
use Rattle.value.proofs.NumberLaws.{bytes_8}
use Rattle.flushing_store.proofs.GiveLaws.{none_written, short_written, bring_plain, bring_bound, room_behind}
use Rattle.flushing_store.proofs.give.bring.Goals as goal

pub returns-in_err-len-2 : goal.returns-in_err-len-2
returns-in_err-len-2 c = rw c.from_residual-in_err-len-2.ensures (none_written (said c.args.version) _ (omega (arith, length-replicate {A = ℕ})) c.in_err-len-2.ensures.len)

pub returns : goal.returns
returns c =
    rw c.if-begins.false (bring_plain (said c.args.version) _ (omega (arith, length-replicate {A = ℕ})) c.args.bound _ _ c.in_ok-len-2.ensures.len c.encode-2.ensures.bytes)

pub returns-in_err-len : goal.returns-in_err-len
returns-in_err-len c =
    let cp : c.copy_from_slice.new.self ≡ bytes_of 8 c.args.bound = c.copy_from_slice.ensures.after ∙ c.to_le_bytes.ensures ∙ bytes_8 c.args.bound in
    rw c.from_residual.ensures
    (none_written (said c.args.version) _ (room_behind c.copy_from_slice.new.self (replicate {A = ℕ} 1302 0) c.args.bound cp (length-replicate {A = ℕ} 1302 0)) c.in_err-len.ensures.len)

pub overflow_add-result : goal.overflow_add-result
overflow_add-result c =
    let cp : c.copy_from_slice.new.self ≡ bytes_of 8 c.args.bound = c.copy_from_slice.ensures.after ∙ c.to_le_bytes.ensures ∙ bytes_8 c.args.bound in
    let h = short_written (said c.args.version) _ (room_behind c.copy_from_slice.new.self (replicate {A = ℕ} 1302 0) c.args.bound cp (length-replicate {A = ℕ} 1302 0)) c.in_ok-len.len
    c.in_ok-len.ensures.len in
    omega arith

pub returns-then-begins : goal.returns-then-begins
returns-then-begins c =
    let cp : c.copy_from_slice.new.self ≡ bytes_of 8 c.args.bound = c.copy_from_slice.ensures.after ∙ c.to_le_bytes.ensures ∙ bytes_8 c.args.bound in
    let post = drop 8 (replicate {A = ℕ} 1302 0) in
    rw c.if-begins.true
    (bring_bound (said c.args.version) _ (room_behind c.copy_from_slice.new.self (replicate {A = ℕ} 1302 0) c.args.bound cp (length-replicate {A = ℕ} 1302 0)) c.args.bound c.in_ok-len.len
    c.copy_from_slice.new.self post c.encode.new.out (drop 1294 (drop 8 (c.copy_from_slice.new.self ++ post))) c.in_ok-len.ensures.len cp c.encode.ensures.bytes)
