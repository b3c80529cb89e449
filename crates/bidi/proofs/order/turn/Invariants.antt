use Rattle.std.proofs.Common.{◌≡◌, ◌-◌, ◌++◌, length, take, drop}
use Rattle.rules.specs.Order.{reversed, at}
use Rattle.bidi.proofs.order.turn.Given as goal

abbrev pub invariant-loop-i : goal.invariant-loop-i
invariant-loop-i l = take l.i l.list ++ reversed (at l.levels) l.k (drop l.i l.list) ≡ reversed (at l.levels) l.k l.initial.list

abbrev pub decreases-loop-i : goal.decreases-loop-i
decreases-loop-i l = length l.list - l.i
