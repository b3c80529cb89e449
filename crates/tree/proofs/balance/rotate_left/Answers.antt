use Rattle.std.proofs.Common.{sym, ◌∙◌, subst, ap, arith}
use mathlib.Core.Logic.{∥∥₁_elim, ∥∥₁_map}
use native.Mathlib.Bridge.{le_prop}
use Rattle.tree.specs.Surgery.{Becomes}
use Rattle.tree.proofs.Held.{opened, within}
use Rattle.tree.proofs.Rotating.{lsingle_1, lsingle_2, lsingle_all, ldouble_1, ldouble_2, ldouble_3, ldouble_all, left_of_none}
use Rattle.tree.proofs.balance.rotate_left.Goals as goal

pub returns-in_default : goal.returns-in_default
returns-in_default g c = λ a b w. subst (Becomes _ _ _) (sym (left_of_none g.T.Measure.ops _ _ a b c.in_default.is w.on_right)) (c.write_node.ensures a b w)

pub row_at-below-requires : goal.row_at-below-requires
row_at-below-requires g c = ∥∥₁_elim c.requires le_prop (λ w. within w.1 c.in-Some.is w.2.on_right)

pub extent_of-requires : goal.extent_of-requires
extent_of-requires g c = ∥∥₁_map c.requires (λ w. let o = opened w.1 c.in-Some.is c.row_at-below.ensures w.2.on_right in (o.a, o.left, tt))

pub extent_of-requires-2 : goal.extent_of-requires-2
extent_of-requires-2 g c = ∥∥₁_map c.requires (λ w. let o = opened w.1 c.in-Some.is c.row_at-below.ensures w.2.on_right in (o.b, o.right, tt))

pub write_node-requires-then-extent_of : goal.write_node-requires-then-extent_of
write_node-requires-then-extent_of g c = ∥∥₁_map c.requires (λ w.
    let o = opened w.1 c.in-Some.is c.row_at-below.ensures w.2.on_right in
    (w.0, o.a, lsingle_1 g.T.Measure.ops w.2 o))

pub write_node-requires-then-extent_of-2 : goal.write_node-requires-then-extent_of-2
write_node-requires-then-extent_of-2 g c = ∥∥₁_map c.requires (λ w.
    let o = opened w.1 c.in-Some.is c.row_at-below.ensures w.2.on_right in
    let t = c.write_node-then-extent_of.ensures w.0 o.a (lsingle_1 g.T.Measure.ops w.2 o) in
    (_, o.b, lsingle_2 g.T.Measure.ops w.2 o c.write_node-then-extent_of.auto.rows t))

pub returns-then-extent_of : goal.returns-then-extent_of
returns-then-extent_of g c = λ a b w.
    let o = opened b c.in-Some.is c.row_at-below.ensures w.on_right in
    let t = c.write_node-then-extent_of.ensures a o.a (lsingle_1 g.T.Measure.ops w o) in
    let h = c.extent_of.ensures.height o.a o.left in
    let h' = c.extent_of-2.ensures.height o.b o.right in
    lsingle_all g.T.Measure.ops w o c.args.node.element (omega arith) t
    (c.write_node-then-extent_of-2.ensures _ _ (lsingle_2 g.T.Measure.ops w o c.write_node-then-extent_of.auto.rows t))

pub row_at-middle-requires : goal.row_at-middle-requires
row_at-middle-requires g c = ∥∥₁_elim c.requires le_prop (λ w.
    let o = opened w.1 c.in-Some.is c.row_at-below.ensures w.2.on_right in
    within o.a c.in-Some-left.is o.left)

pub write_node-requires-2 : goal.write_node-requires-2
write_node-requires-2 g c = ∥∥₁_map c.requires (λ w.
    let o = opened w.1 c.in-Some.is c.row_at-below.ensures w.2.on_right in
    let q = opened o.a c.in-Some-left.is c.row_at-middle.ensures o.left in
    (q.b, o.b, ldouble_1 g.T.Measure.ops w.2 o q))

pub write_node-requires-3 : goal.write_node-requires-3
write_node-requires-3 g c = ∥∥₁_map c.requires (λ w.
    let o = opened w.1 c.in-Some.is c.row_at-below.ensures w.2.on_right in
    let q = opened o.a c.in-Some-left.is c.row_at-middle.ensures o.left in
    let t = c.write_node-2.ensures _ _ (ldouble_1 g.T.Measure.ops w.2 o q) in
    (w.0, q.a, ldouble_2 g.T.Measure.ops w.2 o q c.write_node-2.auto.rows t))

pub write_node-requires-4 : goal.write_node-requires-4
write_node-requires-4 g c = ∥∥₁_map c.requires (λ w.
    let o = opened w.1 c.in-Some.is c.row_at-below.ensures w.2.on_right in
    let q = opened o.a c.in-Some-left.is c.row_at-middle.ensures o.left in
    let t = c.write_node-2.ensures _ _ (ldouble_1 g.T.Measure.ops w.2 o q) in
    let v = c.write_node-3.ensures _ _ (ldouble_2 g.T.Measure.ops w.2 o q c.write_node-2.auto.rows t) in
    (_, _, ldouble_3 g.T.Measure.ops w.2 o q (c.write_node-3.auto.rows ∙ c.write_node-2.auto.rows) t v))

pub returns : goal.returns
returns g c = λ a b w.
    let o = opened b c.in-Some.is c.row_at-below.ensures w.on_right in
    let q = opened o.a c.in-Some-left.is c.row_at-middle.ensures o.left in
    let t = c.write_node-2.ensures _ _ (ldouble_1 g.T.Measure.ops w o q) in
    let v = c.write_node-3.ensures _ _ (ldouble_2 g.T.Measure.ops w o q c.write_node-2.auto.rows t) in
    let x = c.write_node-4.ensures _ _ (ldouble_3 g.T.Measure.ops w o q (c.write_node-3.auto.rows ∙ c.write_node-2.auto.rows) t v) in
    let h = c.extent_of.ensures.height o.a o.left in
    let h' = c.extent_of-2.ensures.height o.b o.right in
    ldouble_all g.T.Measure.ops w o q c.args.node.element (omega arith) t v x
