use Rattle.std.proofs.Common.{arith}
use Rattle.tree.specs.Trees.{capacity_of}
use Rattle.tree.proofs.tree.Tree.capacity.Goals as goal

pub returns : goal.returns
unfolding capacity_of
returns g c = let m = c.min.ensures in omega arith
