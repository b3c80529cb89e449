use Rattle.std.proofs.Common.{◌-◌, sym, ap, ◌∙◌, arith}
use mathlib.Core.Logic.{∥∥₁_map}
use Rattle.std.specs.List.{between}
use Rattle.tree.specs.Measures.{total_of}
use Rattle.tree.specs.Shapes.{size, elements}
use Rattle.tree.proofs.Held.{opened, within_of}
use Rattle.tree.proofs.Reading.{lower}
use Rattle.tree.proofs.Seeking.{left_totalled, right_totalled, total_whole, total_left, total_right, total_both}
use Rattle.tree.proofs.total.+total_below.Goals as goal

pub row_at-row-requires : goal.row_at-row-requires
row_at-row-requires g t c = within_of c.in-Some.is c.requires

pub returns-then-end-row : goal.returns-then-end-row
returns-then-end-row g t c = λ s w u l m.
    let o = opened s c.in-Some.is c.row_at-row.ensures w in
    let n = ap (λ x. x.count) o.row in
    let z = ap size o.is in
    total_whole g.T.Measure.laws o u c.args.end (omega arith) ∙ ap (λ x. total_of g.T.Measure.ops (between x c.args.end (elements s))) (sym c.if-first-eq0.true)

pub extent_of-before-requires : goal.extent_of-before-requires
extent_of-before-requires g t c = ∥∥₁_map c.requires (λ w. let o = opened w.0 c.in-Some.is c.row_at-row.ensures w.1 in (o.a, o.left, tt))

pub total_below-requires : goal.total_below-requires
total_below-requires g t c κs inside = (
  (lower c.in-Some.is c.row_at-row.ensures c.requires c.decreases).0,
  (
    inside.0,
    (
      inside.1,
      ∥∥₁_map c.requires (λ w.
          let o = opened w.0 c.in-Some.is c.row_at-row.ensures w.1 in
          let n = c.extent_of-before.ensures.count o.a o.left in
          (o.a, o.left, (w.2.0, omega arith))),
    ),
  ),
)

pub returns-then-end-before : goal.returns-then-end-before
returns-then-end-before g t c = λ s w u l m.
    let h = g.T.Measure.laws in
    let o = opened s c.in-Some.is c.row_at-row.ensures w in
    let n = c.extent_of-before.ensures.count o.a o.left in
    total_left h o u c.args.first c.args.end l (omega arith) (c.total_below.ensures o.a o.left (left_totalled h o u) l (omega arith))

pub total_below-requires-then-first-before : goal.total_below-requires-then-first-before
total_below-requires-then-first-before g t c κs inside = (
  (lower c.in-Some.is c.row_at-row.ensures c.requires c.decreases).1,
  (
    inside.0,
    (
      inside.1,
      ∥∥₁_map c.requires (λ w.
          let o = opened w.0 c.in-Some.is c.row_at-row.ensures w.1 in
          let n = c.extent_of-before.ensures.count o.a o.left in
          let z = ap size o.is in
          let u = w.2.0 in
          let v = w.2.1 in
          (o.b, o.right, (omega arith, omega arith))),
    ),
  ),
)

pub returns-then-first-before : goal.returns-then-first-before
returns-then-first-before g t c = λ s w u l m.
    let h = g.T.Measure.laws in
    let o = opened s c.in-Some.is c.row_at-row.ensures w in
    let n = c.extent_of-before.ensures.count o.a o.left in
    let z = ap size o.is in
    let b = c.extent_of-before.result.count in
    total_right h o u c.args.first c.args.end (c.args.first - b - 1) (c.args.end - b - 1) l (omega arith) (omega arith)
    (c.total_below-then-first-before.ensures o.b o.right (right_totalled h o u) (omega arith) (omega arith))

pub total_below-left-requires : goal.total_below-left-requires
total_below-left-requires g t c κs inside = (
  (lower c.in-Some.is c.row_at-row.ensures c.requires c.decreases).0,
  (
    inside.0,
    (
      inside.1,
      ∥∥₁_map c.requires (λ w.
          let o = opened w.0 c.in-Some.is c.row_at-row.ensures w.1 in
          let n = c.extent_of-before.ensures.count o.a o.left in
          (o.a, o.left, (omega arith, omega arith))),
    ),
  ),
)

pub total_below-right-requires : goal.total_below-right-requires
total_below-right-requires g t c κs inside = (
  (lower c.in-Some.is c.row_at-row.ensures c.requires c.decreases).1,
  (
    inside.0,
    (
      inside.1,
      ∥∥₁_map c.requires (λ w.
          let o = opened w.0 c.in-Some.is c.row_at-row.ensures w.1 in
          let n = c.extent_of-before.ensures.count o.a o.left in
          let z = ap size o.is in
          let v = w.2.1 in
          (o.b, o.right, (omega arith, omega arith))),
    ),
  ),
)

pub returns : goal.returns
returns g t c = λ s w u l m.
    let h = g.T.Measure.laws in
    let k = g.T.Measure.ops in
    let o = opened s c.in-Some.is c.row_at-row.ensures w in
    let n = c.extent_of-before.ensures.count o.a o.left in
    let z = ap size o.is in
    let b = c.extent_of-before.result.count in
    total_both h o u c.args.first c.args.end (c.args.end - b - 1) {l = c.total_below-left.result} {m = c.total_below-right.result} (omega arith) (omega arith)
    (c.total_below-left.ensures o.a o.left (left_totalled h o u) (omega arith) (omega arith) ∙ ap (λ x. total_of k (between c.args.first x (elements o.a))) n)
    (c.total_below-right.ensures o.b o.right (right_totalled h o u) (omega arith) (omega arith))
    (c.join-2.ensures ∙ ap (λ x. k.join x c.total_below-right.result) (c.join.ensures ∙ ap (k.join c.total_below-left.result) c.of.ensures))
