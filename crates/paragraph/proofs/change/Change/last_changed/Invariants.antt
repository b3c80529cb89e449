use Rattle.std.proofs.Common.{ℕ, ◌<◌}
use Rattle.paragraph.specs.Edges.{IsChanged}
use Rattle.paragraph.proofs.change.Change.last_changed.Given as goal

abbrev pub invariant-loop-i : goal.invariant-loop-i
invariant-loop-i l = (k : ℕ) → IsChanged l.self k → k < l.i
