use Rattle.std.proofs.Common.{take}
use Rattle.rules.specs.Contexts.{start}
use Rattle.bidi.specs.Items.{classes}
use Rattle.paragraph.specs.Paragraphs.{items_of}
use Rattle.paragraph.proofs.Leftwards.{Leftward}
use Rattle.paragraph.proofs.change.Change.walk_before.Given as goal

abbrev pub invariant-loop-i : goal.invariant-loop-i
invariant-loop-i l = Leftward l.base (start l.base) l.initial.old l.initial.new (take l.self.place (classes (items_of l.self.paragraph.now))) l.i l.old l.new l.found
