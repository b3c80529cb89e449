use Rattle.tree.specs.Surgery.{height_at}
use Rattle.tree.proofs.total.+total_below.Given as goal

abbrev pub decreases-total_below : goal.decreases-total_below
decreases-total_below g l = height_at l.rows.now l.link
