use Rattle.std.proofs.Common.{Some, None, ◌-◌, sym, subst, ap, arith}
use mathlib.Core.Logic.{∥∥₁_elim, ∥∥₁_map}
use native.Mathlib.Bridge.{le_prop}
use Rattle.tree.specs.Shapes.{Shape, leaf}
use Rattle.tree.specs.Surgery.{joined, Split, Becomes}
use Rattle.tree.proofs.Held.{opened, within}
use Rattle.tree.proofs.Reading.{lower}
use Rattle.tree.proofs.Inserting.{first, done_first, go_left, go_right, level_left, level_right, done_left, done_right}
use Rattle.tree.proofs.insert.+insert_below.Goals as goal

pub write_node-requires : goal.write_node-requires
write_node-requires g t c = ∥∥₁_map c.requires (λ w. (leaf, leaf, first g.T.Measure.ops w.0 c.in_default.is w.1))

pub returns-in_default : goal.returns-in_default
returns-in_default g t c = λ s w. subst (Becomes _ _ _) (sym (done_first g.T.Measure.ops s c.args.element c.in_default.is w)) (c.write_node.ensures leaf leaf (first g.T.Measure.ops s c.in_default.is w))

pub row_at-row-requires : goal.row_at-row-requires
row_at-row-requires g t c = ∥∥₁_elim c.requires le_prop (λ w. within w.0 c.in-Some.is w.1.under)

pub extent_of-before-requires : goal.extent_of-before-requires
extent_of-before-requires g t c = ∥∥₁_map c.requires (λ w. let o = opened w.0 c.in-Some.is c.row_at-row.ensures w.1.under in (o.a, o.left, tt))

pub insert_below-left-requires : goal.insert_below-left-requires
insert_below-left-requires g t c κs inside = (
  (lower c.in-Some.is c.row_at-row.ensures (∥∥₁_map c.requires (λ w. (w.0, w.1.under, tt {0}))) c.decreases).0,
  (
    inside.0,
    (
      inside.1,
      ∥∥₁_map c.requires (λ w.
          let o = opened w.0 c.in-Some.is c.row_at-row.ensures w.1.under in
          let n = c.extent_of-before.ensures.count o.a o.left in
          (o.a, go_left g.T.Measure.ops w.1 o (omega arith))),
    ),
  ),
)

pub rebalance-requires : goal.rebalance-requires
rebalance-requires g t c = ∥∥₁_map c.requires (λ w.
    let o = opened w.0 c.in-Some.is c.row_at-row.ensures w.1.under in
    let n = c.extent_of-before.ensures.count o.a o.left in
    let v = c.insert_below-left.ensures o.a (go_left g.T.Measure.ops w.1 o (omega arith)) in
    (_, o.b, level_left g.T.Measure.ops w.1 o c.args.place c.args.element c.insert_below-left.auto.rows v))

pub insert_below-right-requires : goal.insert_below-right-requires
insert_below-right-requires g t c κs inside = (
  (lower c.in-Some.is c.row_at-row.ensures (∥∥₁_map c.requires (λ w. (w.0, w.1.under, tt {0}))) c.decreases).1,
  (
    inside.0,
    (
      inside.1,
      ∥∥₁_map c.requires (λ w.
          let o = opened w.0 c.in-Some.is c.row_at-row.ensures w.1.under in
          let n = c.extent_of-before.ensures.count o.a o.left in
          (o.b, go_right g.T.Measure.ops w.1 o _ (omega arith) (omega arith))),
    ),
  ),
)

pub rebalance-requires-else-place-before : goal.rebalance-requires-else-place-before
rebalance-requires-else-place-before g t c = ∥∥₁_map c.requires (λ w.
    let o = opened w.0 c.in-Some.is c.row_at-row.ensures w.1.under in
    let n = c.extent_of-before.ensures.count o.a o.left in
    let p = c.args.place - c.extent_of-before.result.count - 1 in
    let v = c.insert_below-right.ensures o.b (go_right g.T.Measure.ops w.1 o p (omega arith) (omega arith)) in
    (o.a, _, level_right g.T.Measure.ops w.1 o p c.args.element c.insert_below-right.auto.rows v))

pub returns-then-place-before : goal.returns-then-place-before
returns-then-place-before g t c = λ s w.
    let o = opened s c.in-Some.is c.row_at-row.ensures w.under in
    let n = c.extent_of-before.ensures.count o.a o.left in
    let v = c.insert_below-left.ensures o.a (go_left g.T.Measure.ops w o (omega arith)) in
    let x = c.rebalance.ensures _ _ (level_left g.T.Measure.ops w o c.args.place c.args.element c.insert_below-left.auto.rows v) in
    done_left g.T.Measure.ops w o c.args.element (omega arith) v x

pub returns-else-place-before : goal.returns-else-place-before
returns-else-place-before g t c = λ s w.
    let o = opened s c.in-Some.is c.row_at-row.ensures w.under in
    let n = c.extent_of-before.ensures.count o.a o.left in
    let p = c.args.place - c.extent_of-before.result.count - 1 in
    let v = c.insert_below-right.ensures o.b (go_right g.T.Measure.ops w o p (omega arith) (omega arith)) in
    let x = c.rebalance-else-place-before.ensures _ _ (level_right g.T.Measure.ops w o p c.args.element c.insert_below-right.auto.rows v) in
    done_right g.T.Measure.ops w o p c.args.element (omega arith) (omega arith) v x
