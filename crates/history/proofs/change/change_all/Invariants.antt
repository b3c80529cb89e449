use Rattle.std.proofs.Common.{◌≡◌, take, drop}
use Rattle.paragraph.specs.Paragraphs.{room_of, plain_of}
use Rattle.history.specs.Plain.{after_all, Answered}
use Rattle.history.proofs.change.change_all.Given as goal

abbrev pub invariant-loop-i : goal.invariant-loop-i
invariant-loop-i l =
    (plain_of l.paragraph ≡ after_all (room_of l.initial.paragraph) l.recorded (plain_of l.initial.paragraph) (take l.i l.changes))
    × Answered (room_of l.initial.paragraph) l.recorded (plain_of l.initial.paragraph) (take l.i l.changes) (take l.i l.outcomes)
    × (drop l.i l.outcomes ≡ drop l.i l.initial.outcomes)
    × (room_of l.paragraph ≡ room_of l.initial.paragraph)
