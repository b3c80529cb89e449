use Rattle.std.proofs.Common.{ℕ, ◌<◌, ◌≤◌, true, slice_index}
use Rattle.paragraph.specs.Paragraphs.{levels_in}
use Rattle.paragraph.proofs.level.Levels.stretch_start.Given as goal

abbrev pub invariant-loop-i : goal.invariant-loop-i
invariant-loop-i g l = (i : ℕ) → l.i ≤ i → i < l.place → goal.F-post g l.passes (slice_index (levels_in l.self.paragraph.now) i) true
