use Rattle.std.proofs.Common.{◌≡◌, length}
use Rattle.bidi.proofs.Resolving.{Settled}
use Rattle.bidi.proofs.resolve.settle.Given as goal

abbrev pub invariant-loop-place : goal.invariant-loop-place
invariant-loop-place l = (length l.bytes ≡ length l.items) × Settled l.base l.items l.place l.bytes l.left
