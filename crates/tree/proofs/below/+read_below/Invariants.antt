use Rattle.tree.specs.Surgery.{height_at}
use Rattle.tree.proofs.below.+read_below.Given as goal

abbrev pub decreases-read_below : goal.decreases-read_below
decreases-read_below g l = height_at l.rows.now l.link
