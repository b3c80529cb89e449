use Rattle.std.proofs.Common.{◌≡◌, map, take, drop}
use Rattle.tree.specs.History.{question_answer}
use Rattle.tree.specs.Plain.{numbered}
use Rattle.tree.specs.Trees.{elements_of, depth_in, TotalsRight}
use Rattle.tree.proofs.tree.Tree.ask_all.Given as goal

abbrev pub invariant-loop-i : goal.invariant-loop-i
invariant-loop-i g l =
    (TotalsRight g.T.Measure.ops l.self → map numbered (take l.i l.answers) ≡ map (question_answer g.T.Measure.ops (elements_of l.self) (depth_in l.self)) (take l.i l.questions))
    × (drop l.i l.answers ≡ drop l.i l.initial.answers)
