use Rattle.std.proofs.Common.{◌≡◌, ◌+◌, ◌-◌, ◌≤◌, ap, ◌∙◌, arith}
use mathlib.Core.Logic.{∥∥₁_elim, ∥∥₁_map}
use native.Mathlib.Bridge.{le_prop}
use Rattle.tree.specs.Shapes.{size, elements}
use Rattle.tree.specs.Weights.{over, weight_of}
use Rattle.tree.proofs.Held.{opened, within_of}
use Rattle.tree.proofs.Reading.{lower}
use Rattle.tree.proofs.Seeking.{left_totalled, right_totalled, seek_left, seek_here, seek_right}
use Rattle.tree.proofs.seek.+seek_below.Goals as goal

pub row_at-row-requires : goal.row_at-row-requires
row_at-row-requires g t c = within_of c.in-Some.is c.requires

pub part_of-left-requires : goal.part_of-left-requires
part_of-left-requires g t c = ∥∥₁_map c.requires (λ w. let o = opened w.0 c.in-Some.is c.row_at-row.ensures w.1 in (o.a, o.left, tt))

pub seek_below-requires : goal.seek_below-requires
seek_below-requires g t c κs inside = (
  (lower c.in-Some.is c.row_at-row.ensures c.requires c.decreases).0,
  (
    inside.0,
    (
      inside.1,
      ∥∥₁_map c.requires (λ w.
          let o = opened w.0 c.in-Some.is c.row_at-row.ensures w.1 in
          (o.a, o.left, tt)),
    ),
  ),
)

pub returns-then-weight-before : goal.returns-then-weight-before
returns-then-weight-before g t c = record {
  within = λ s w.
      let o = opened s c.in-Some.is c.row_at-row.ensures w in
      let r = c.seek_below.ensures.within o.a o.left in
      let z = ap size o.is in
      omega arith;
  place = λ s w u.
      let h = g.T.Measure.laws in
      let o = opened s c.in-Some.is c.row_at-row.ensures w in
      let b = c.weight-before.ensures in
      seek_left h o u c.args.weight (c.part_of-left.ensures o.a o.left) (omega arith) (c.seek_below.ensures.place o.a o.left (left_totalled h o u));
}

pub returns-then-rest-own : goal.returns-then-rest-own
returns-then-rest-own g t c = record {
  within = λ s w.
      let o = opened s c.in-Some.is c.row_at-row.ensures w in
      let n = ap (λ x. x.count) (c.part_of-left.ensures o.a o.left) in
      let z = ap size o.is in
      omega arith;
  place = λ s w u.
      let h = g.T.Measure.laws in
      let o = opened s c.in-Some.is c.row_at-row.ensures w in
      let b = c.weight-before.ensures in
      let e = c.weight-own.ensures ∙ ap g.T.Measure.ops.weight c.of.ensures in
      seek_here h o u c.args.weight (c.part_of-left.ensures o.a o.left) (omega arith) (omega arith);
}

pub overflow_add-result : goal.overflow_add-result
overflow_add-result g t c =
    let b : c.part_of-left.result.count ≤ 4096 = ∥∥₁_elim c.requires le_prop (λ w.
    let o = opened w.0 c.in-Some.is c.row_at-row.ensures w.1 in
    let n = ap (λ x. x.count) (c.part_of-left.ensures o.a o.left) in
    let f = o.left.few in
    omega arith) in
    omega arith

pub seek_below-requires-2 : goal.seek_below-requires-2
seek_below-requires-2 g t c κs inside = (
  (lower c.in-Some.is c.row_at-row.ensures c.requires c.decreases).1,
  (
    inside.0,
    (
      inside.1,
      ∥∥₁_map c.requires (λ w.
          let o = opened w.0 c.in-Some.is c.row_at-row.ensures w.1 in
          (o.b, o.right, tt)),
    ),
  ),
)

pub overflow_add-result-2 : goal.overflow_add-result-2
overflow_add-result-2 g t c =
    let b : c.part_of-left.result.count + 1 + c.seek_below-2.result ≤ 4096 = ∥∥₁_elim c.requires le_prop (λ w.
    let o = opened w.0 c.in-Some.is c.row_at-row.ensures w.1 in
    let n = ap (λ x. x.count) (c.part_of-left.ensures o.a o.left) in
    let r = c.seek_below-2.ensures.within o.b o.right in
    let f = w.1.few in
    let z = ap size o.is in
    omega arith) in
    omega arith

pub returns : goal.returns
returns g t c = record {
  within = λ s w.
      let o = opened s c.in-Some.is c.row_at-row.ensures w in
      let n = ap (λ x. x.count) (c.part_of-left.ensures o.a o.left) in
      let r = c.seek_below-2.ensures.within o.b o.right in
      let z = ap size o.is in
      omega arith;
  place = λ s w u.
      let h = g.T.Measure.laws in
      let o = opened s c.in-Some.is c.row_at-row.ensures w in
      let b = c.weight-before.ensures in
      let e = c.weight-own.ensures ∙ ap g.T.Measure.ops.weight c.of.ensures in
      let left : c.args.weight - c.weight-before.result - c.weight-own.result ≡ c.args.weight - g.T.Measure.ops.weight c.part_of-left.result.total - weight_of g.T.Measure.ops c.row_at-row.result.element = omega arith in
      seek_right h o u c.args.weight (c.part_of-left.ensures o.a o.left) (omega arith) (omega arith)
      (c.seek_below-2.ensures.place o.b o.right (right_totalled h o u) ∙ ap (λ m. over (weight_of g.T.Measure.ops) m (elements o.b)) left);
}
