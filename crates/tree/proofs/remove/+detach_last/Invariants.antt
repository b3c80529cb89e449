use Rattle.std.proofs.Common.{Some}
use Rattle.tree.specs.Surgery.{height_at}
use Rattle.tree.proofs.remove.+detach_last.Given as goal

abbrev pub decreases-detach_last : goal.decreases-detach_last
decreases-detach_last g l = height_at l.rows.now (Some l.i)
