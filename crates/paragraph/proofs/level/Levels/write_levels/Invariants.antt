use Rattle.std.proofs.Common.{◌≡◌, ◌++◌, take, drop}
use Rattle.paragraph.specs.Paragraphs.{levels_in}
use Rattle.paragraph.proofs.level.Levels.write_levels.Given as goal

abbrev pub invariant-loop-place : goal.invariant-loop-place
invariant-loop-place l = l.front ≡ take l.place (levels_in l.self.paragraph.now) ++ drop l.place l.initial.front
