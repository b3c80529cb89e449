use Rattle.std.proofs.Common.{◌-◌}
use Rattle.tree.proofs.build.+build_below.Given as goal

abbrev pub decreases-build_below : goal.decreases-build_below
decreases-build_below g l = l.end - l.first
