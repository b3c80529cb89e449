use Rattle.tree.specs.Surgery.{height_at}
use Rattle.tree.proofs.seek.+seek_below.Given as goal

abbrev pub decreases-seek_below : goal.decreases-seek_below
decreases-seek_below g l = height_at l.rows.now l.link
