use Rattle.std.proofs.Common.{◌≡◌, ◌+◌, take}
use Rattle.tree.specs.Plain.{spliced}
use Rattle.tree.specs.Trees.{elements_of, capacity_of, TotalsRight}
use Rattle.tree.proofs.tree.Tree.set_all.Given as goal

abbrev pub invariant-loop-i : goal.invariant-loop-i
invariant-loop-i g l =
    (elements_of l.self ≡ spliced (elements_of l.initial.self) l.place (l.place + l.i) (take l.i l.elements))
    × (TotalsRight g.T.Measure.ops l.initial.self → TotalsRight g.T.Measure.ops l.self)
    × (capacity_of l.self ≡ capacity_of l.initial.self)
