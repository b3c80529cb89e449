use Rattle.std.proofs.Common.{◌≡◌, ◌+◌, ◌-◌, ◌≤◌, ◌++◌, length, take, drop, set, sym, ap, ap₂, ◌∙◌, arith, length-set, length-drop}
use mathlib.Core.Logic.{∥∥₁_elim, ∥∥₁_map}
use native.Mathlib.Bridge.{le_prop}
use Rattle.std.specs.List.{between}
use Rattle.std.proofs.lemmas.List.{drop_all, append-nil}
use Rattle.tree.specs.Shapes.{size, elements}
use Rattle.tree.proofs.Held.{opened, within_of, length-elements}
use Rattle.tree.proofs.Pasting.{front_set, length-tail}
use Rattle.tree.proofs.Reading.{lower}
use Rattle.tree.proofs.Stretches.{between_right, between_both}
use Rattle.tree.proofs.copy.+copy_below.Goals as goal

pub row_at-row-requires : goal.row_at-row-requires
row_at-row-requires g t c = within_of c.in-Some.is c.requires

pub extent_of-requires : goal.extent_of-requires
extent_of-requires g t c = ∥∥₁_map c.requires (λ w. let o = opened w.0 c.in-Some.is c.row_at-row.ensures w.1 in (o.a, o.left, tt))

pub overflow_add-first : goal.overflow_add-first
overflow_add-first g t c =
    let h : c.args.first + length c.args.out.now ≤ 4096 = ∥∥₁_elim c.requires le_prop (λ w. let f = w.1.few in let h = w.2 in omega arith) in
    omega arith

pub copy_below-requires : goal.copy_below-requires
copy_below-requires g t c κs inside = (
  (lower c.in-Some.is c.row_at-row.ensures c.requires c.decreases).1,
  (
    inside.0,
    (
      inside.1,
      ∥∥₁_map c.requires (λ w.
          let o = opened w.0 c.in-Some.is c.row_at-row.ensures w.1 in
          let n = c.extent_of.ensures.count o.a o.left in
          let f = c.from-before.ensures in
          let z = ap size o.is in
          let h = w.2 in
          (o.b, o.right, omega arith)),
    ),
  ),
)

pub returns-then-first-before : goal.returns-then-first-before
returns-then-first-before g t c = λ s w h.
    let o = opened s c.in-Some.is c.row_at-row.ensures w in
    let n = c.extent_of.ensures.count o.a o.left in
    let f = c.from-before.ensures in
    let z = ap size o.is in
    let e = length-elements o.a in
    let first = c.args.first in
    let end = first + length c.args.out.now in
    let b = c.from-before.result in
    let r = first - b - 1 in
    let k : r + length c.args.out.now ≡ end - b - 1 = omega arith in
    c.copy_below.ensures o.b o.right (omega arith)
    ∙ ap (λ m. between r m (elements o.b)) k
    ∙ sym (ap (λ x. between first end (elements x)) o.is ∙ between_right (elements o.a) _ _ first end r (end - b - 1) (omega arith) (omega arith) (omega arith))

pub copy_below-requires-then-first-out : goal.copy_below-requires-then-first-out
copy_below-requires-then-first-out g t c κs inside = (
  (lower c.in-Some.is c.row_at-row.ensures c.requires c.decreases).0,
  (
    inside.0,
    (
      inside.1,
      ∥∥₁_map c.requires (λ w.
          let o = opened w.0 c.in-Some.is c.row_at-row.ensures w.1 in
          let n = c.extent_of.ensures.count o.a o.left in
          let f = c.from-before.ensures in
          (o.a, o.left, omega arith)),
    ),
  ),
)

pub copy_below-requires-2 : goal.copy_below-requires-2
copy_below-requires-2 g t c κs inside = (
  (lower c.in-Some.is c.row_at-row.ensures c.requires c.decreases).0,
  (
    inside.0,
    (
      inside.1,
      ∥∥₁_map c.requires (λ w.
          let o = opened w.0 c.in-Some.is c.row_at-row.ensures w.1 in
          let n = c.extent_of.ensures.count o.a o.left in
          let f = c.from-before.ensures in
          let l = c.split_at_mut-front.ensures.front_len in
          (o.a, o.left, omega arith)),
    ),
  ),
)

pub copy_below-requires-3 : goal.copy_below-requires-3
copy_below-requires-3 g t c κs inside = (
  (lower c.in-Some.is c.row_at-row.ensures c.requires c.decreases).1,
  (
    inside.0,
    (
      inside.1,
      ∥∥₁_map c.requires (λ w.
          let o = opened w.0 c.in-Some.is c.row_at-row.ensures w.1 in
          let n = c.extent_of.ensures.count o.a o.left in
          let f = c.from-before.ensures in
          let z = ap size o.is in
          let h = w.2 in
          let l = c.split_at_mut-front.ensures.back_len in
          let m = length-set c.split_at_mut-front.result.1.now 0 c.row_at-row.result.element in
          let r = length-tail (set c.split_at_mut-front.result.1.now 0 c.row_at-row.result.element) in
          (o.b, o.right, omega arith)),
    ),
  ),
)

pub returns : goal.returns
returns g t c = λ s w h.
    let o = opened s c.in-Some.is c.row_at-row.ensures w in
    let n = c.extent_of.ensures.count o.a o.left in
    let f = c.from-before.ensures in
    let z = ap size o.is in
    let e = length-elements o.a in
    let x = c.row_at-row.result.element in
    let rest = c.split_at_mut-front.result.1.now in
    let l = c.split_at_mut-front.ensures.front_len in
    let m = c.split_at_mut-front.ensures.back_len in
    let written = set rest 0 x in
    let q = length-set rest 0 x in
    let r = length-tail written in
    let d = length-drop 1 written in
    let first = c.args.first in
    let end = first + length c.args.out.now in
    let g = end - c.from-before.result - 1 in
    let before = c.copy_below-2.ensures o.a o.left (omega arith) in
    let behind = c.copy_below-3.ensures o.b o.right (omega arith) in
    let upto : first + length c.split_at_mut-front.result.0.now ≡ length (elements o.a) = omega arith in
    let many : 0 + length (take (length written - 1) (drop 1 written)) ≡ g = omega arith in
    ap₂ ◌++◌ (before ∙ ap (λ n. between first n (elements o.a)) upto)
    (ap₂ ◌++◌ (front_set rest x (omega arith)) (ap₂ ◌++◌ (behind ∙ ap (λ n. between 0 n (elements o.b)) many) (drop_all (length written - 1) (drop 1 written) (omega arith)) ∙ append-nil _))
    ∙ sym (ap (λ y. between first end (elements y)) o.is ∙ between_both (elements o.a) x (elements o.b) first end g (omega arith) (omega arith))
