use mathlib.Core.Logic.{∥∥₁_elim, ∥∥₁_map}
use native.Mathlib.Bridge.{le_prop}
use Rattle.std.proofs.Common.{◌∷◌, arith}
use Rattle.tree.proofs.Held.{nth_within}
use Rattle.tree.proofs.Wholes.{loose_for, gone_within, whole_out}
use Rattle.tree.proofs.pool.remove_in.Goals as goal

pub remove_below-out-requires : goal.remove_below-out-requires
remove_below-out-requires g c = ∥∥₁_map c.requires.sound (λ w. let n = w.2.counted in let h = c.requires.within in (w.0, loose_for g.T.Measure.ops c.args.place w.0 w.1 w.2, omega arith))

pub row_at-row-requires : goal.row_at-row-requires
row_at-row-requires g c =
    let same = c.remove_below-out.auto.rows in
    ∥∥₁_elim c.requires.sound le_prop (λ w.
    let k = g.T.Measure.ops in
    let n = w.2.counted in
    let h = c.requires.within in
    let v = gone_within k c.args.place w.0 w.1 (omega arith) w.2 (c.remove_below-out.ensures w.0 (loose_for k c.args.place w.0 w.1 w.2) (omega arith)).from in
    omega arith)

pub write_row-requires : goal.write_row-requires
write_row-requires g c = nth_within c.remove_below-out.new.rows c.remove_below-out.result.row c.row_at-row.result c.row_at-row.ensures

pub returns : goal.returns
returns g c = λ s f w.
    let k = g.T.Measure.ops in
    let p = c.args.place in
    let n = w.counted in
    let h = c.requires.within in
    let t = c.remove_below-out.ensures s (loose_for k p s f w) (omega arith) in
    ((c.remove_below-out.result.row ∷ f, whole_out k p s f (omega arith) w t.left c.remove_below-out.auto.rows t.from c.row_at-row.ensures c.write_row.ensures), t.told)
