use Rattle.std.proofs.Common.{◌≡◌, ◌+◌, ◌-◌, ◌≤◌, sym, ap, subst, arith}
use mathlib.Core.Logic.{∥∥₁_elim, ∥∥₁_map}
use mathlib.Core.HLevel.{⊥_prop}
use native.Mathlib.Bridge.{le_prop}
use Rattle.tree.specs.Shapes.{size}
use Rattle.tree.proofs.Held.{opened, within_of, no_place}
use Rattle.tree.proofs.Reading.{lower, Reads, read_left, read_here, read_right, depth_within}
use Rattle.tree.proofs.below.+read_below.Goals as goal

pub row_at-row-requires : goal.row_at-row-requires
row_at-row-requires g t c = within_of c.in-Some.is c.requires

pub extent_of-before-requires : goal.extent_of-before-requires
extent_of-before-requires g t c = ∥∥₁_map c.requires (λ w. let o = opened w.0 c.in-Some.is c.row_at-row.ensures w.1 in (o.a, o.left, tt))

pub read_below-element-requires : goal.read_below-element-requires
read_below-element-requires g t c κs within = (
  (lower c.in-Some.is c.row_at-row.ensures c.requires c.decreases).0,
  (
    within.0,
    (
      within.1,
      ∥∥₁_map c.requires (λ w.
          let o = opened w.0 c.in-Some.is c.row_at-row.ensures w.1 in
          let n = c.extent_of-before.ensures.count o.a o.left in
          (o.a, o.left, omega arith)),
    ),
  ),
)

pub overflow_add-result : goal.overflow_add-result
overflow_add-result g t c = let b : c.read_below-element.result.1 ≤ 4096 = ∥∥₁_elim c.requires le_prop (λ w.
    let o = opened w.0 c.in-Some.is c.row_at-row.ensures w.1 in
    let n = c.extent_of-before.ensures.count o.a o.left in
    let r = (c.read_below-element.ensures o.a o.left (omega arith)).1 in
    let d = depth_within o.a c.args.place in
    let f = o.left.few in
    omega arith) in omega arith

pub read_below-element-requires-else-place-before-2 : goal.read_below-element-requires-else-place-before-2
read_below-element-requires-else-place-before-2 g t c κs within = (
  (lower c.in-Some.is c.row_at-row.ensures c.requires c.decreases).1,
  (
    within.0,
    (
      within.1,
      ∥∥₁_map c.requires (λ w.
          let o = opened w.0 c.in-Some.is c.row_at-row.ensures w.1 in
          let n = c.extent_of-before.ensures.count o.a o.left in
          let h = w.2 in
          let z = ap size o.is in
          (o.b, o.right, omega arith)),
    ),
  ),
)

pub overflow_add-result-else-place-before-2 : goal.overflow_add-result-else-place-before-2
overflow_add-result-else-place-before-2 g t c = let b : c.read_below-element-else-place-before-2.result.1 ≤ 4096 = ∥∥₁_elim c.requires le_prop (λ w.
    let o = opened w.0 c.in-Some.is c.row_at-row.ensures w.1 in
    let n = c.extent_of-before.ensures.count o.a o.left in
    let h = w.2 in
    let z = ap size o.is in
    let r = (c.read_below-element-else-place-before-2.ensures o.b o.right (omega arith)).1 in
    let d = depth_within o.b (c.args.place - c.extent_of-before.result.count - 1) in
    let f = o.right.few in
    omega arith) in omega arith

pub unreachable-requires : goal.unreachable-requires
unreachable-requires g t c = ∥∥₁_elim c.requires ⊥_prop (λ w. no_place c.in_default.is w.0 w.1 w.2)

pub returns-then-place-before : goal.returns-then-place-before
returns-then-place-before g t c = λ s w h.
    let o = opened s c.in-Some.is c.row_at-row.ensures w in
    let n = c.extent_of-before.ensures.count o.a o.left in
    subst (λ x. Reads x c.args.place c.read_below-element.result.0 (c.read_below-element.result.1 + 1)) (sym o.is)
    (read_left o.a c.in-Some.i c.row_at-row.result.element c.row_at-row.result.total o.b c.args.place _ _ (omega arith) (c.read_below-element.ensures o.a o.left (omega arith)))

pub returns-then-place-before-2 : goal.returns-then-place-before-2
returns-then-place-before-2 g t c = λ s w h.
    let o = opened s c.in-Some.is c.row_at-row.ensures w in
    let n = c.extent_of-before.ensures.count o.a o.left in
    subst (λ x. Reads x c.args.place c.row_at-row.result.element 1) (sym o.is)
    (read_here o.a c.in-Some.i c.row_at-row.result.element c.row_at-row.result.total o.b c.args.place (omega arith))

pub returns-else-place-before-2 : goal.returns-else-place-before-2
returns-else-place-before-2 g t c = λ s w h.
    let o = opened s c.in-Some.is c.row_at-row.ensures w in
    let n = c.extent_of-before.ensures.count o.a o.left in
    let z = ap size o.is in
    let p : c.args.place - c.extent_of-before.result.count - 1 ≡ c.args.place - size o.a - 1 = omega arith in
    let q = c.read_below-element-else-place-before-2.ensures o.b o.right (omega arith) in
    subst (λ x. Reads x c.args.place c.read_below-element-else-place-before-2.result.0 (c.read_below-element-else-place-before-2.result.1 + 1)) (sym o.is)
    (read_right o.a c.in-Some.i c.row_at-row.result.element c.row_at-row.result.total o.b c.args.place _ _ (omega arith) (subst (λ x. Reads o.b x c.read_below-element-else-place-before-2.result.0 c.read_below-element-else-place-before-2.result.1) p q))
