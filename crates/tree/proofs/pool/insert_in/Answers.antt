use mathlib.Core.Logic.{∥∥₁_map}
use Rattle.std.proofs.Common.{arith}
use Rattle.tree.specs.Shapes.{uses, size}
use Rattle.tree.proofs.Wholes.{fresh_for, whole_put}
use Rattle.tree.proofs.pool.insert_in.Goals as goal

pub take_row-taken-requires : goal.take_row-taken-requires
take_row-taken-requires g c = ∥∥₁_map c.requires.sound (λ w. let a = w.2.counted in let b = c.requires.room in let d = c.requires.space in (uses w.0, size w.0, w.1, w.2.pool, omega arith, omega arith))

pub insert_below-root-requires : goal.insert_below-root-requires
insert_below-root-requires g c = ∥∥₁_map c.requires.sound (λ w.
    let a = w.2.counted in let b = c.requires.room in let d = c.requires.space in
    let t = c.take_row-taken.ensures (uses w.0) (size w.0) w.1 w.2.pool (omega arith) (omega arith) in
    (w.0, fresh_for g.T.Measure.ops c.args.place c.take_row-taken.result.row w.0 w.1 t.1.0 w.2 t.1.1 t.0 c.requires.within c.requires.room))

pub returns : goal.returns
returns g c = λ s f w.
    let a = w.counted in let b = c.requires.room in let d = c.requires.space in
    let t = c.take_row-taken.ensures (uses s) (size s) f w.pool (omega arith) (omega arith) in
    let v = c.insert_below-root.ensures s (fresh_for g.T.Measure.ops c.args.place c.take_row-taken.result.row s f t.1.0 w t.1.1 t.0 c.requires.within c.requires.room) in
    (c.take_row-taken.result.row, t.1.0, whole_put g.T.Measure.ops c.args.place c.take_row-taken.result.row s f t.1.0 c.args.element w t.1.1 v c.insert_below-root.auto.rows)
