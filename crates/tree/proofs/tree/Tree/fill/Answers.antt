use Rattle.std.proofs.Common.{[], sym, ap, ◌∙◌, subst, arith}
use Rattle.tree.specs.Shapes.{elements, Totalled}
use Rattle.tree.specs.Trees.{shape, elements_of, capacity_of, TotalsRight}
use Rattle.tree.proofs.Wholes.{whole_shape}
use Rattle.tree.proofs.tree.Tree.fill.Goals as goal

pub fill_in-self-requires : goal.fill_in-self-requires
unfolding capacity_of
fill_in-self-requires g c = let h = c.requires in record { space = omega arith; room = omega arith }

pub invariant_of-self : goal.invariant_of-self
invariant_of-self g c = let b = c.fill_in-self.ensures in record { sound = ∣ (b.0, [], b.1) ∣₁ }

pub returns : goal.returns
unfolding shape elements_of capacity_of TotalsRight
returns g c =
    let b = c.fill_in-self.ensures in
    let e = whole_shape b.0 b.1 in
    record {
      elements = ap elements e ∙ b.2.0;
      totals = subst (Totalled g.T.Measure.ops) (sym e) b.2.1;
      capacity = let l = c.fill_in-self.auto.rows in omega arith;
    }
