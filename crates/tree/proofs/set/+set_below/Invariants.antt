use Rattle.tree.specs.Surgery.{height_at}
use Rattle.tree.proofs.set.+set_below.Given as goal

abbrev pub decreases-set_below : goal.decreases-set_below
decreases-set_below g l = height_at l.rows.now l.link
