use Rattle.tree.proofs.Held.{within_of}
use Rattle.tree.proofs.below.part_of.Goals as goal

pub row_at-row-requires : goal.row_at-row-requires
row_at-row-requires g c = within_of c.in-Some.is c.requires
