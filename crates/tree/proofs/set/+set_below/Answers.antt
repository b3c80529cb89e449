use Rattle.std.proofs.Common.{◌-◌, ap, arith}
use mathlib.Core.Logic.{∥∥₁_elim, ∥∥₁_map}
use mathlib.Core.HLevel.{⊥_prop}
use native.Mathlib.Bridge.{le_prop}
use Rattle.tree.specs.Shapes.{size}
use Rattle.tree.proofs.Held.{opened, within, no_place}
use Rattle.tree.proofs.Reading.{lower}
use Rattle.tree.proofs.Removing.{loose_left, loose_right}
use Rattle.tree.proofs.Setting.{set_split_left, set_split_right, set_split_here, set_left_done, set_here_done, set_right_done}
use Rattle.tree.proofs.set.+set_below.Goals as goal

pub unreachable-requires : goal.unreachable-requires
unreachable-requires g t c = ∥∥₁_elim c.requires ⊥_prop (λ w. no_place c.in_default.is w.0 w.1.under w.2)

pub row_at-row-requires : goal.row_at-row-requires
row_at-row-requires g t c = ∥∥₁_elim c.requires le_prop (λ w. within w.0 c.in-Some.is w.1.under)

pub extent_of-before-requires : goal.extent_of-before-requires
extent_of-before-requires g t c = ∥∥₁_map c.requires (λ w. let o = opened w.0 c.in-Some.is c.row_at-row.ensures w.1.under in (o.a, o.left, tt))

pub set_below-requires : goal.set_below-requires
set_below-requires g t c κs inside = (
  (lower c.in-Some.is c.row_at-row.ensures (∥∥₁_map c.requires (λ w. (w.0, w.1.under, tt {0}))) c.decreases).0,
  (
    inside.0,
    (
      inside.1,
      ∥∥₁_map c.requires (λ w.
          let o = opened w.0 c.in-Some.is c.row_at-row.ensures w.1.under in
          let n = c.extent_of-before.ensures.count o.a o.left in
          (o.a, loose_left g.T.Measure.ops w.1 o, omega arith)),
    ),
  ),
)

pub write_node-requires : goal.write_node-requires
write_node-requires g t c = ∥∥₁_map c.requires (λ w.
    let k = g.T.Measure.ops in
    let o = opened w.0 c.in-Some.is c.row_at-row.ensures w.1.under in
    let n = c.extent_of-before.ensures.count o.a o.left in
    (_, o.b, set_split_left k w.1 o c.args.place c.args.element c.set_below.auto.rows (c.set_below.ensures o.a (loose_left k w.1 o) (omega arith))))

pub write_node-requires-then-place-before-2 : goal.write_node-requires-then-place-before-2
write_node-requires-then-place-before-2 g t c = ∥∥₁_map c.requires (λ w.
    let o = opened w.0 c.in-Some.is c.row_at-row.ensures w.1.under in
    (o.a, o.b, set_split_here g.T.Measure.ops w.1 o c.args.place c.args.element))

pub set_below-requires-else-place-before-2 : goal.set_below-requires-else-place-before-2
set_below-requires-else-place-before-2 g t c κs inside = (
  (lower c.in-Some.is c.row_at-row.ensures (∥∥₁_map c.requires (λ w. (w.0, w.1.under, tt {0}))) c.decreases).1,
  (
    inside.0,
    (
      inside.1,
      ∥∥₁_map c.requires (λ w.
          let o = opened w.0 c.in-Some.is c.row_at-row.ensures w.1.under in
          let n = c.extent_of-before.ensures.count o.a o.left in
          let z = ap size o.is in
          let u = w.2 in
          (o.b, loose_right g.T.Measure.ops w.1 o, omega arith)),
    ),
  ),
)

pub write_node-requires-else-place-before-2 : goal.write_node-requires-else-place-before-2
write_node-requires-else-place-before-2 g t c = ∥∥₁_map c.requires (λ w.
    let k = g.T.Measure.ops in
    let o = opened w.0 c.in-Some.is c.row_at-row.ensures w.1.under in
    let n = c.extent_of-before.ensures.count o.a o.left in
    let z = ap size o.is in
    let u = w.2 in
    (o.a, _, set_split_right k w.1 o (c.args.place - c.extent_of-before.result.count - 1) c.args.element c.set_below-else-place-before-2.auto.rows (c.set_below-else-place-before-2.ensures o.b (loose_right k w.1 o) (omega arith))))

pub returns-then-place-before : goal.returns-then-place-before
returns-then-place-before g t c = λ s w u.
    let k = g.T.Measure.ops in
    let o = opened s c.in-Some.is c.row_at-row.ensures w.under in
    let n = c.extent_of-before.ensures.count o.a o.left in
    let v = c.set_below.ensures o.a (loose_left k w o) (omega arith) in
    let x = c.write_node.ensures _ _ (set_split_left k w o c.args.place c.args.element c.set_below.auto.rows v) in
    set_left_done k w o c.args.place c.args.element (omega arith) c.in-Some.is v x

pub returns-then-place-before-2 : goal.returns-then-place-before-2
returns-then-place-before-2 g t c = λ s w u.
    let k = g.T.Measure.ops in
    let o = opened s c.in-Some.is c.row_at-row.ensures w.under in
    let n = c.extent_of-before.ensures.count o.a o.left in
    set_here_done k w o c.args.place c.args.element (omega arith) c.in-Some.is (c.write_node-then-place-before-2.ensures _ _ (set_split_here k w o c.args.place c.args.element))

pub returns-else-place-before-2 : goal.returns-else-place-before-2
returns-else-place-before-2 g t c = λ s w u.
    let k = g.T.Measure.ops in
    let o = opened s c.in-Some.is c.row_at-row.ensures w.under in
    let n = c.extent_of-before.ensures.count o.a o.left in
    let z = ap size o.is in
    let q = c.args.place - c.extent_of-before.result.count - 1 in
    let v = c.set_below-else-place-before-2.ensures o.b (loose_right k w o) (omega arith) in
    let x = c.write_node-else-place-before-2.ensures _ _ (set_split_right k w o q c.args.element c.set_below-else-place-before-2.auto.rows v) in
    set_right_done k w o c.args.place q c.args.element (omega arith) (omega arith) c.in-Some.is v x
