use Rattle.std.proofs.Common.{sym, ap, ◌∙◌}
use Rattle.tree.specs.Shapes.{tall, size}
use Rattle.tree.proofs.Held.{opened, within_of}
use Rattle.tree.proofs.below.extent_of.Goals as goal

pub row_at-row-requires : goal.row_at-row-requires
row_at-row-requires g c = within_of c.in-Some.is c.requires

pub returns-in-Some : goal.returns-in-Some
returns-in-Some g c = record {
  height = λ s w.
      let o = opened s c.in-Some.is c.row_at-row.ensures w in
      ap (λ r. r.height) o.row ∙ sym (ap tall o.is);
  count = λ s w.
      let o = opened s c.in-Some.is c.row_at-row.ensures w in
      ap (λ r. r.count) o.row ∙ sym (ap size o.is);
}
