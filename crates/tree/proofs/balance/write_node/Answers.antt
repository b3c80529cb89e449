use Rattle.std.proofs.Common.{set, ap, ◌∙◌}
use mathlib.Core.Logic.{∥∥₁_elim, ∥∥₁_map}
use native.Mathlib.Bridge.{le_prop}
use Rattle.tree.proofs.Writing.{wrote}
use Rattle.tree.proofs.balance.write_node.Goals as goal

pub row_over-row-requires : goal.row_over-row-requires
row_over-row-requires g c = ∥∥₁_map c.requires (λ w. (w.0, w.1, w.2.on_left, w.2.on_right, w.2.few))

pub write_row-requires : goal.write_row-requires
write_row-requires g c = ∥∥₁_elim c.requires le_prop (λ w. w.2.at)

pub returns : goal.returns
returns g c = λ a b w.
    let r = c.row_over-row.ensures a b w.on_left w.on_right in
    wrote a b c.args.node.element _ w (c.write_row.ensures ∙ ap (set c.args.rows.now c.args.i) r)
