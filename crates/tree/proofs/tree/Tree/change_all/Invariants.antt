use Rattle.std.proofs.Common.{◌≡◌, map, take, drop}
use Rattle.tree.specs.History.{after_all, answers_all}
use Rattle.tree.specs.Plain.{numbered}
use Rattle.tree.specs.Trees.{elements_of, capacity_of, TotalsRight}
use Rattle.tree.proofs.tree.Tree.change_all.Given as goal

abbrev pub invariant-loop-i : goal.invariant-loop-i
invariant-loop-i g l =
    (elements_of l.self ≡ after_all (capacity_of l.initial.self) (elements_of l.initial.self) (take l.i l.changes))
    × (map numbered (take l.i l.outcomes) ≡ answers_all (capacity_of l.initial.self) (elements_of l.initial.self) (take l.i l.changes))
    × (drop l.i l.outcomes ≡ drop l.i l.initial.outcomes)
    × (TotalsRight g.T.Measure.ops l.initial.self → TotalsRight g.T.Measure.ops l.self)
    × (capacity_of l.self ≡ capacity_of l.initial.self)
