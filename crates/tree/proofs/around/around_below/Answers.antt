use Rattle.std.proofs.Common.{◌≡◌, ℕ, ◌-◌, ◌<◌, List, Option, sym, refl, ap, ◌∙◌, subst, arith}
use mathlib.Core.Logic.{∥∥₁_elim, ∥∥₁_map}
use mathlib.Core.HLevel.{⊥_prop}
use Rattle.tree.specs.Measures.{Operations}
use Rattle.tree.specs.Shapes.{Shape, size, Under}
use Rattle.tree.specs.Sides.{Around, Descends}
use Rattle.tree.specs.declared.row.Row.{Row}
use Rattle.tree.proofs.Held.{opened, within_of, no_place}
use Rattle.tree.proofs.Reading.{lower}
use Rattle.tree.proofs.Sides.{around_left, around_here, around_right}
use Rattle.tree.proofs.around.around_below.Goals as goal

-- the part that the way down has come to is there, whichever shape the rows hold
module _ {E T : Type 0} {k : Operations E T} {rows : List (Row E T)} {root link : Option ℕ} {target place : ℕ} {before behind : T} (some : ∥ ((s : Shape E T) × Under rows root s × (target < size s)) ∥₁) (way : (s : Shape E T) → Under rows root s → target < size s → Descends k rows s target link place before behind) where
  come : ∥ ((s : Shape E T) × Under rows link s × (place < size s)) ∥₁
  come = ∥∥₁_map some (λ w. let d = way w.0 w.1 w.2 in (d.0, d.1, d.2.0))

pub row_at-row-requires : goal.row_at-row-requires
row_at-row-requires g c = within_of {P = λ s. c.loop-link.place < size s} c.in-Some.is (come c.requires c.loop-link.invariant)

pub part_of-left-requires : goal.part_of-left-requires
part_of-left-requires g c = ∥∥₁_map (come c.requires c.loop-link.invariant) (λ w. let o = opened w.0 c.in-Some.is c.row_at-row.ensures w.1 in (o.a, o.left, tt))

pub part_of-right-requires : goal.part_of-right-requires
part_of-right-requires g c = ∥∥₁_map (come c.requires c.loop-link.invariant) (λ w. let o = opened w.0 c.in-Some.is c.row_at-row.ensures w.1 in (o.b, o.right, tt))

pub loop-link-smaller-then-place-left : goal.loop-link-smaller-then-place-left
loop-link-smaller-then-place-left g c = (lower {P = λ s. c.loop-link.place < size s} c.in-Some.is c.row_at-row.ensures (come c.requires c.loop-link.invariant) refl).0

pub loop-link-smaller : goal.loop-link-smaller
loop-link-smaller g c = (lower {P = λ s. c.loop-link.place < size s} c.in-Some.is c.row_at-row.ensures (come c.requires c.loop-link.invariant) refl).1

pub loop-link-preserved-then-place-left : goal.loop-link-preserved-then-place-left
loop-link-preserved-then-place-left g c = λ s w u.
    let k = g.T.Measure.ops in
    let d = c.loop-link.invariant s w u in
    let o = opened d.0 c.in-Some.is c.row_at-row.ensures d.1 in
    let n = ap (λ x. x.count) (c.part_of-left.ensures o.a o.left) in
    let r = ap (λ x. x.total) (c.part_of-right.ensures o.b o.right) in
    let place = c.loop-link.place in
    let before = c.loop-link.before in
    let behind = c.loop-link.behind in
    let row = c.row_at-row.result in
    let joined = c.join-behind.ensures ∙ ap (λ x. k.join x behind) (c.join.ensures ∙ ap (λ x. k.join x c.part_of-right.result.total) c.of.ensures ∙ ap (k.join (k.of row.element)) r) in (
      o.a,
      o.left,
      (
        omega arith,
        λ told a. d.2.1 told
            (subst (λ x. Around k x place before behind told) (sym o.is)
            (around_left g.T.Measure.laws o.a c.in-Some.i row.element row.total o.b place before behind (omega arith)
            (subst (λ x. Around k o.a place before x told) joined a))),
      ),
    )

pub returns-then-place-left-2 : goal.returns-then-place-left-2
returns-then-place-left-2 g c = λ s w u.
    let k = g.T.Measure.ops in
    let d = c.loop-link.invariant s w u in
    let o = opened d.0 c.in-Some.is c.row_at-row.ensures d.1 in
    let l = c.part_of-left.ensures o.a o.left in
    let n = ap (λ x. x.count) l in
    let place = c.loop-link.place in
    let before = c.loop-link.before in
    let behind = c.loop-link.behind in
    let row = c.row_at-row.result in
    d.2.1 _ (subst (λ x. Around k x place before behind (c.join-then-place-left-2.result, row.element, c.join-then-place-left-2-2.result)) (sym o.is)
    (around_here g.T.Measure.laws o.a c.in-Some.i row.element row.total o.b place before behind (omega arith) _ _
    (c.join-then-place-left-2.ensures ∙ ap (λ x. k.join before x.total) l)
    (c.join-then-place-left-2-2.ensures ∙ ap (λ x. k.join x.total behind) (c.part_of-right.ensures o.b o.right))))

pub loop-link-preserved : goal.loop-link-preserved
loop-link-preserved g c = λ s w u.
    let k = g.T.Measure.ops in
    let d = c.loop-link.invariant s w u in
    let o = opened d.0 c.in-Some.is c.row_at-row.ensures d.1 in
    let l = c.part_of-left.ensures o.a o.left in
    let n = ap (λ x. x.count) l in
    let z = ap size o.is in
    let v = d.2.0 in
    let place = c.loop-link.place in
    let before = c.loop-link.before in
    let behind = c.loop-link.behind in
    let row = c.row_at-row.result in
    let p : place - c.part_of-left.result.count - 1 ≡ place - size o.a - 1 = omega arith in
    let joined = c.join-before.ensures ∙ ap (k.join c.join-else-place-left-2.result) c.of-else-place-left-2.ensures ∙ ap (λ x. k.join x (k.of row.element)) (c.join-else-place-left-2.ensures ∙ ap (λ x. k.join before x.total) l) in (
      o.b,
      o.right,
      (
        omega arith,
        λ told a. d.2.1 told
            (subst (λ x. Around k x place before behind told) (sym o.is)
            (around_right g.T.Measure.laws o.a c.in-Some.i row.element row.total o.b place before behind (omega arith)
            (subst (λ x. Around k o.b (place - size o.a - 1) x behind told) joined (subst (λ x. Around k o.b x c.join-before.result behind told) p a)))),
      ),
    )

pub unreachable-requires : goal.unreachable-requires
unreachable-requires g c = ∥∥₁_elim (come c.requires c.loop-link.invariant) ⊥_prop (λ w. no_place c.in_default.is w.0 w.1 w.2)
