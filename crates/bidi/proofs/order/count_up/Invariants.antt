use Rattle.std.proofs.Common.{◌≡◌, take}
use Rattle.rules.specs.Order.{places}
use Rattle.bidi.proofs.order.count_up.Given as goal

abbrev pub invariant-loop-place : goal.invariant-loop-place
invariant-loop-place l = take l.place l.list ≡ places 0 l.place
