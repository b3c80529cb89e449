use Rattle.std.proofs.Common.{◌-◌, ap, arith}
use mathlib.Core.Logic.{∥∥₁_elim, ∥∥₁_map}
use mathlib.Core.HLevel.{⊥_prop}
use native.Mathlib.Bridge.{le_prop}
use Rattle.tree.specs.Shapes.{size}
use Rattle.tree.proofs.Held.{opened, within, no_place}
use Rattle.tree.proofs.Reading.{lower}
use Rattle.tree.proofs.Removing.{loose_left, loose_right, left_level, right_level, both_sides, removed_left, removed_here, removed_right}
use Rattle.tree.proofs.remove.+remove_below.Goals as goal

pub unreachable-requires : goal.unreachable-requires
unreachable-requires g t c = ∥∥₁_elim c.requires ⊥_prop (λ w. no_place c.in_default.is w.0 w.1.under w.2)

pub row_at-row-requires : goal.row_at-row-requires
row_at-row-requires g t c = ∥∥₁_elim c.requires le_prop (λ w. within w.0 c.in-Some.is w.1.under)

pub extent_of-before-requires : goal.extent_of-before-requires
extent_of-before-requires g t c = ∥∥₁_map c.requires (λ w. let o = opened w.0 c.in-Some.is c.row_at-row.ensures w.1.under in (o.a, o.left, tt))

pub remove_below-deep-requires : goal.remove_below-deep-requires
remove_below-deep-requires g t c κs inside = (
  (lower c.in-Some.is c.row_at-row.ensures (∥∥₁_map c.requires (λ w. (w.0, w.1.under, tt {0}))) c.decreases).0,
  (
    inside.0,
    (
      inside.1,
      ∥∥₁_map c.requires (λ w.
          let o = opened w.0 c.in-Some.is c.row_at-row.ensures w.1.under in
          let n = c.extent_of-before.ensures.count o.a o.left in
          (o.a, loose_left g.T.Measure.ops w.1 o, omega arith)),
    ),
  ),
)

pub rebalance-top-requires : goal.rebalance-top-requires
rebalance-top-requires g t c = ∥∥₁_map c.requires (λ w.
    let k = g.T.Measure.ops in
    let o = opened w.0 c.in-Some.is c.row_at-row.ensures w.1.under in
    let n = c.extent_of-before.ensures.count o.a o.left in
    let v = (c.remove_below-deep.ensures o.a (loose_left k w.1 o) (omega arith)).left in
    (_, o.b, left_level k w.1 o c.args.place c.remove_below-deep.auto.rows v))

pub returns-then-place-before : goal.returns-then-place-before
returns-then-place-before g t c = λ s w h.
    let k = g.T.Measure.ops in
    let o = opened s c.in-Some.is c.row_at-row.ensures w.under in
    let n = c.extent_of-before.ensures.count o.a o.left in
    let v = c.remove_below-deep.ensures o.a (loose_left k w o) (omega arith) in
    removed_left k w o c.args.place (omega arith) v (c.rebalance-top.ensures _ _ (left_level k w o c.args.place c.remove_below-deep.auto.rows v.left))

pub merge-rest-requires : goal.merge-rest-requires
merge-rest-requires g t c = ∥∥₁_map c.requires (λ w.
    let o = opened w.0 c.in-Some.is c.row_at-row.ensures w.1.under in
    (o.a, o.b, both_sides g.T.Measure.ops w.1 o))

pub returns-then-place-before-2 : goal.returns-then-place-before-2
returns-then-place-before-2 g t c = λ s w h.
    let k = g.T.Measure.ops in
    let o = opened s c.in-Some.is c.row_at-row.ensures w.under in
    let n = c.extent_of-before.ensures.count o.a o.left in
    removed_here k w o c.args.place (omega arith) (c.merge-rest.ensures o.a o.b (both_sides k w o))

pub remove_below-deep-requires-else-place-before-2 : goal.remove_below-deep-requires-else-place-before-2
remove_below-deep-requires-else-place-before-2 g t c κs inside = (
  (lower c.in-Some.is c.row_at-row.ensures (∥∥₁_map c.requires (λ w. (w.0, w.1.under, tt {0}))) c.decreases).1,
  (
    inside.0,
    (
      inside.1,
      ∥∥₁_map c.requires (λ w.
          let o = opened w.0 c.in-Some.is c.row_at-row.ensures w.1.under in
          let n = c.extent_of-before.ensures.count o.a o.left in
          let h = w.2 in
          let z = ap size o.is in
          (o.b, loose_right g.T.Measure.ops w.1 o, omega arith)),
    ),
  ),
)

pub rebalance-top-requires-else-place-before-2 : goal.rebalance-top-requires-else-place-before-2
rebalance-top-requires-else-place-before-2 g t c = ∥∥₁_map c.requires (λ w.
    let k = g.T.Measure.ops in
    let o = opened w.0 c.in-Some.is c.row_at-row.ensures w.1.under in
    let n = c.extent_of-before.ensures.count o.a o.left in
    let h = w.2 in
    let z = ap size o.is in
    let v = (c.remove_below-deep-else-place-before-2.ensures o.b (loose_right k w.1 o) (omega arith)).left in
    (o.a, _, right_level k w.1 o _ c.remove_below-deep-else-place-before-2.auto.rows v))

pub returns-else-place-before-2 : goal.returns-else-place-before-2
returns-else-place-before-2 g t c = λ s w h.
    let k = g.T.Measure.ops in
    let o = opened s c.in-Some.is c.row_at-row.ensures w.under in
    let n = c.extent_of-before.ensures.count o.a o.left in
    let z = ap size o.is in
    let p = c.args.place - c.extent_of-before.result.count - 1 in
    let v = c.remove_below-deep-else-place-before-2.ensures o.b (loose_right k w o) (omega arith) in
    removed_right k w o c.args.place p (omega arith) (omega arith) v (c.rebalance-top-else-place-before-2.ensures _ _ (right_level k w o p c.remove_below-deep-else-place-before-2.auto.rows v.left))
