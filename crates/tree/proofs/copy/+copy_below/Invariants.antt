use Rattle.tree.specs.Surgery.{height_at}
use Rattle.tree.proofs.copy.+copy_below.Given as goal

abbrev pub decreases-copy_below : goal.decreases-copy_below
decreases-copy_below g l = height_at l.rows.now l.link
