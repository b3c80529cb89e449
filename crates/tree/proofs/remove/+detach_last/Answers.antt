use Rattle.std.proofs.Common.{◌<◌, sym, refl, ap, ◌∙◌, subst}
use mathlib.Core.Logic.{∥∥₁_elim, ∥∥₁_map}
use native.Mathlib.Bridge.{le_prop}
use Rattle.tree.specs.Surgery.{height_at, Loose, last_row, last_of}
use Rattle.tree.proofs.Held.{opened, within}
use Rattle.tree.proofs.Reading.{lower}
use Rattle.tree.proofs.Removing.{loose_right, level_rest, done_rest}
use Rattle.tree.proofs.remove.+detach_last.Goals as goal

pub row_at-row-requires : goal.row_at-row-requires
row_at-row-requires g t c = ∥∥₁_elim c.requires le_prop (λ w. within w.0 refl w.1.under)

pub detach_last-deep-requires : goal.detach_last-deep-requires
detach_last-deep-requires g t c κs inside =
    let k = g.T.Measure.ops in
    let low = (lower refl c.row_at-row.ensures (∥∥₁_map c.requires (λ w. (w.0, w.1.under, tt {0}))) c.decreases).1 in (
      subst (λ x. height_at c.args.rows.now x < t) c.in-Some.is low,
      (
        inside.0,
        (
          inside.1,
          ∥∥₁_map c.requires (λ w.
              let o = opened w.0 refl c.row_at-row.ensures w.1.under in
              (o.b, subst (λ x. Loose c.args.rows.now x o.b) c.in-Some.is (loose_right k w.1 o))),
        ),
      ),
    )

pub rebalance-top-requires : goal.rebalance-top-requires
rebalance-top-requires g t c =
    let k = g.T.Measure.ops in
    ∥∥₁_map c.requires (λ w.
    let o = opened w.0 refl c.row_at-row.ensures w.1.under in
    let l = subst (λ x. Loose c.args.rows.now x o.b) c.in-Some.is (loose_right k w.1 o) in
    (o.a, _, level_rest k w.1 o c.in-Some.is c.detach_last-deep.auto.rows (c.detach_last-deep.ensures.turned o.b l)))

pub returns : goal.returns
returns g t c =
    let k = g.T.Measure.ops in
    record {
      turned = λ s w.
          let o = opened s refl c.row_at-row.ensures w.under in
          let l = subst (λ x. Loose c.args.rows.now x o.b) c.in-Some.is (loose_right k w o) in
          let v = c.detach_last-deep.ensures.turned o.b l in
          done_rest k w o c.in-Some.is v (c.rebalance-top.ensures o.a _ (level_rest k w o c.in-Some.is c.detach_last-deep.auto.rows v));
      named = λ s n d w.
          let o = opened s refl c.row_at-row.ensures w.under in
          let l = subst (λ x. Loose c.args.rows.now x o.b) c.in-Some.is (loose_right k w o) in
          let v = c.detach_last-deep.ensures.named o.b c.args.i c.row_at-row.result.element l in
          (v.0 ∙ sym (ap (last_row n) o.is), v.1 ∙ sym (ap (last_of d) o.is));
    }
