use Rattle.std.proofs.Common.{◌≡◌}
use Rattle.rules.specs.Order.{highest, reordered, at}
use Rattle.bidi.proofs.order.turn_all.Given as goal

abbrev pub invariant-loop-k : goal.invariant-loop-k
invariant-loop-k l = reordered (at l.levels) l.k l.list ≡ reordered (at l.levels) (highest l.levels) l.initial.list
