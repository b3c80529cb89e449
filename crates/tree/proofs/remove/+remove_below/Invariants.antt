use Rattle.tree.specs.Surgery.{height_at}
use Rattle.tree.proofs.remove.+remove_below.Given as goal

abbrev pub decreases-remove_below : goal.decreases-remove_below
decreases-remove_below g l = height_at l.rows.now l.link
