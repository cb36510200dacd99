use Rattle.std.proofs.Common.{◌≡◌, map, drop, vec_items}
use Rattle.orders.specs.Orders.{parts_from, parts_of}
use Rattle.spelling.specs.Word.{spelled}
use Rattle.orders.proofs.order.parts.Given as goal

-- what is left of the words gives the parts that all of them say
abbrev pub invariant-loop-word : goal.invariant-loop-word
invariant-loop-word l = parts_from (vec_items l.left) (map spelled (drop l.word-index l.rest)) ≡ parts_of (map spelled l.rest)
