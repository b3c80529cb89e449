use Rattle.std.proofs.Common.{[], sym, refl, ap, subst}
use Rattle.tree.specs.Shapes.{leaf, Totalled, elements}
use Rattle.tree.specs.Trees.{shape, elements_of, capacity_of, TotalsRight}
use Rattle.tree.proofs.Wholes.{whole_empty, whole_shape}
use Rattle.tree.proofs.tree.Tree.clear.Goals as goal

pub invariant_of-self : goal.invariant_of-self
invariant_of-self g c = record { sound = ∣ (leaf, [], whole_empty c.args.self.now.rows.now) ∣₁ }

pub returns : goal.returns
unfolding shape elements_of capacity_of TotalsRight
returns g c =
    let e = whole_shape leaf (whole_empty c.args.self.now.rows.now) in
    record { elements = ap elements e; totals = subst (Totalled g.T.Measure.ops) (sym e) tt; capacity = refl }
