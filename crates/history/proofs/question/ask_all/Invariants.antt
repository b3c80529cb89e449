use Rattle.std.proofs.Common.{◌≡◌, map, take, drop}
use Rattle.tree.specs.Trees.{depth_in}
use Rattle.paragraph.specs.Faults.{numbered}
use Rattle.paragraph.specs.Paragraphs.{plain_of}
use Rattle.history.specs.Questions.{question_answer}
use Rattle.history.proofs.question.ask_all.Given as goal

abbrev pub invariant-loop-i : goal.invariant-loop-i
invariant-loop-i l =
    (map numbered (take l.i l.answers) ≡ map (question_answer (plain_of l.paragraph) (depth_in l.paragraph.tree.now)) (take l.i l.questions))
    × (drop l.i l.answers ≡ drop l.i l.initial.answers)
