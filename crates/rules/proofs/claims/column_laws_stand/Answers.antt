use Rattle.rules.proofs.AlongOrder.{columns_along_the_order}
use Rattle.rules.proofs.ByStretches.{columns_by_stretches, widths_are_sums}
use Rattle.rules.proofs.claims.column_laws_stand.Goals as goal

pub returns : goal.returns
returns c = record { stretches = columns_by_stretches; along = columns_along_the_order; widths = widths_are_sums }
