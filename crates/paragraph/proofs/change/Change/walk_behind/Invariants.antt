use Rattle.std.proofs.Common.{◌+◌, drop}
use Rattle.rules.specs.Contexts.{end}
use Rattle.bidi.specs.Items.{classes}
use Rattle.paragraph.specs.Paragraphs.{items_of}
use Rattle.paragraph.proofs.Rightwards.{Rightward}
use Rattle.paragraph.proofs.change.Change.walk_behind.Given as goal

abbrev pub invariant-loop-j : goal.invariant-loop-j
invariant-loop-j l = Rightward l.base l.initial.old l.initial.new (end l.base) (drop (l.self.place + l.self.count) (classes (items_of l.self.paragraph.now))) (l.self.place + l.self.count) l.j l.old l.new l.found
