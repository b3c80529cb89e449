use Rattle.std.proofs.Common.{length, ap, arith}
use Rattle.paragraph.proofs.paragraph.Paragraph.open.Goals as goal

pub invariant_of-result : goal.invariant_of-result
invariant_of-result c = let none = ap length c.clear.ensures.elements in record { totals = ∣ c.clear.ensures.totals ∣₁; few = omega arith }
