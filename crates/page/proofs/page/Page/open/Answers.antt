use Rattle.std.proofs.Common.{length, ap, arith}
use Rattle.page.proofs.page.Page.open.Goals as goal

pub invariant_of-result : goal.invariant_of-result
invariant_of-result c = record { totals = ∣ c.clear.ensures.totals ∣₁; few = omega (arith, ap length c.clear.ensures.elements) }
