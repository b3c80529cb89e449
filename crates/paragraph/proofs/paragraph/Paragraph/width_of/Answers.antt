use Rattle.std.proofs.Common.{ap, ◌∙◌}
use Rattle.std.specs.List.{between}
use Rattle.bidi.specs.Sums.{column_ops, context_ops}
use Rattle.paragraph.specs.Paragraphs.{items_of}
use Rattle.paragraph.proofs.Stored.{first_total}
use Rattle.paragraph.proofs.Widths.{width_is}
use Rattle.paragraph.proofs.paragraph.Paragraph.width_of.Goals as goal

pub returns : goal.returns
returns c =
    let p = c.args.self.now in
    let columns = ap (λ t. t.first.width) c.total.ensures ∙ ap (λ t. t.width) (first_total column_ops context_ops (between c.args.first c.args.end (items_of p))) in
    let w = width_is (items_of p) c.args.first c.args.end c.requires.ordered c.requires.within p.few c.total.result.first.width columns in
    record { sum = w.0; small = w.1 }
