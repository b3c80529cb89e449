use Rattle.std.proofs.Common.{Some, ap, subst}
use mathlib.Core.Logic.{∥∥₁_map}
use Rattle.tree.specs.Surgery.{Loose, Becomes, rest, rebalanced}
use Rattle.tree.proofs.Removing.{merge_split, merge_done, sides_loose}
use Rattle.tree.proofs.remove.merge.Goals as goal

pub detach_last-last-requires : goal.detach_last-last-requires
detach_last-last-requires g c = ∥∥₁_map c.requires (λ w. (w.0, subst (λ x. Loose c.args.rows.now x w.0) c.in-Some.is (sides_loose g.T.Measure.ops w.2)))

pub rebalance-requires : goal.rebalance-requires
rebalance-requires g c = ∥∥₁_map c.requires (λ w.
    let k = g.T.Measure.ops in
    let l = subst (λ x. Loose c.args.rows.now x w.0) c.in-Some.is (sides_loose k w.2) in
    (_, w.1, merge_split k w.0 w.1 c.in-Some.is w.2 c.detach_last-last.auto.rows (c.detach_last-last.ensures.turned w.0 l) (c.detach_last-last.ensures.named w.0 0 c.detach_last-last.result.element l).0))

pub returns : goal.returns
returns g c = λ a b w.
    let k = g.T.Measure.ops in
    let l = subst (λ x. Loose c.args.rows.now x a) c.in-Some.is (sides_loose k w) in
    let t = c.detach_last-last.ensures.turned a l in
    let n = (c.detach_last-last.ensures.named a 0 c.detach_last-last.result.element l).0 in
    merge_done k c.detach_last-last.result.element a b c.in-Some.is w t n (λ d. (c.detach_last-last.ensures.named a 0 d l).1)
    (c.rebalance.ensures _ b (merge_split k a b c.in-Some.is w c.detach_last-last.auto.rows t n))
