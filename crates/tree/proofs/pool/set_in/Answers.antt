use mathlib.Core.Logic.{∥∥₁_map}
use Rattle.std.proofs.Common.{arith}
use Rattle.tree.proofs.Setting.{whole_set}
use Rattle.tree.proofs.Wholes.{loose_for}
use Rattle.tree.proofs.pool.set_in.Goals as goal

pub set_below-requires : goal.set_below-requires
set_below-requires g c = ∥∥₁_map c.requires.sound (λ w. let a = w.2.counted in let b = c.requires.within in (w.0, loose_for g.T.Measure.ops c.args.place w.0 w.1 w.2, omega arith))

pub returns : goal.returns
returns g c = λ s f w.
    let k = g.T.Measure.ops in
    let a = w.counted in
    let b = c.requires.within in
    whole_set k {h = c.args.heads} s f c.args.place c.args.element w (c.set_below.ensures s (loose_for k c.args.place s f w) (omega arith)) c.set_below.auto.rows
