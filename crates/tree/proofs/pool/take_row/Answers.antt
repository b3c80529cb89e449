use mathlib.Core.Logic.{∥∥₁_elim}
use native.Mathlib.Bridge.{le_prop}
use Rattle.std.proofs.Common.{◌<◌, [], arith}
use Rattle.tree.proofs.Wholes.{take_some, take_none, free_within}
use Rattle.tree.proofs.pool.take_row.Goals as goal

pub row_at-requires : goal.row_at-requires
row_at-requires g c = ∥∥₁_elim c.requires le_prop (λ w. free_within w.2 c.in-Some.is w.3)

pub returns-in-Some : goal.returns-in-Some
returns-in-Some g c = λ u m f w few fits. (free_within f c.in-Some.is w, take_some c.row_at.result f c.in-Some.is c.row_at.ensures w)

pub returns-in-None : goal.returns-in-None
returns-in-None g c = λ u m f w few fits. let t = take_none f c.in-None.is w few fits in (t.0, ([], t.2))

pub overflow_add-result : goal.overflow_add-result
overflow_add-result g c =
    let b : c.args.used < 4096 = ∥∥₁_elim c.requires le_prop (λ w. (take_none w.2 c.in-None.is w.3 w.4 w.5).1) in
    omega arith
