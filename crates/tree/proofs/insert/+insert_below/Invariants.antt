use Rattle.tree.specs.Surgery.{height_at}
use Rattle.tree.proofs.insert.+insert_below.Given as goal

abbrev pub decreases-insert_below : goal.decreases-insert_below
decreases-insert_below g l = height_at l.rows.now l.link
