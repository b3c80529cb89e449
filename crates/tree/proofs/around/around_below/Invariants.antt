use Rattle.std.proofs.Common.{◌<◌}
use Rattle.tree.specs.Shapes.{Shape, size, Under}
use Rattle.tree.specs.Sides.{Descends}
use Rattle.tree.specs.Surgery.{height_at}
use Rattle.tree.proofs.around.around_below.Given as goal

abbrev pub invariant-loop-link : goal.invariant-loop-link
invariant-loop-link g l =
    (s : Shape g.row.E.Denot g.row.T.Denot) → Under l.rows l.initial.link s → l.target < size s → Descends g.T.Measure.ops l.rows s l.target l.link l.place l.before l.behind

abbrev pub decreases-loop-link : goal.decreases-loop-link
decreases-loop-link g l = height_at l.rows l.link
