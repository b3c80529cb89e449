use Rattle.std.proofs.Common.{◌≡◌, []}
use Rattle.tree.specs.Plain.{spliced}
use Rattle.tree.specs.Trees.{elements_of, capacity_of, TotalsRight}
use Rattle.tree.proofs.tree.Tree.remove_all.Given as goal

abbrev pub invariant-loop-gone : goal.invariant-loop-gone
invariant-loop-gone g l =
    (elements_of l.self ≡ spliced (elements_of l.initial.self) l.first l._gone [])
    × (TotalsRight g.T.Measure.ops l.initial.self → TotalsRight g.T.Measure.ops l.self)
    × (capacity_of l.self ≡ capacity_of l.initial.self)
