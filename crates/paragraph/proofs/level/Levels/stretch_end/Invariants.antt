use Rattle.std.proofs.Common.{ℕ, ◌<◌, ◌≤◌, true, slice_index}
use Rattle.paragraph.specs.Paragraphs.{levels_in}
use Rattle.paragraph.proofs.level.Levels.stretch_end.Given as goal

abbrev pub invariant-loop-i : goal.invariant-loop-i
invariant-loop-i g l = (i : ℕ) → l.place ≤ i → i < l.i → goal.F-post g l.passes (slice_index (levels_in l.self.paragraph.now) i) true
