use Rattle.std.proofs.Common.{drop, ap, ◌∙◌}
use Rattle.bidi.specs.Items.{classes}
use Rattle.paragraph.specs.Paragraphs.{items_of}
use Rattle.paragraph.specs.Steps.{right}
use Rattle.paragraph.proofs.Stretched.{classes_rest}
use Rattle.paragraph.proofs.paragraph.Paragraph.right_at.Goals as goal

pub returns : goal.returns
returns c =
    let items = items_of c.args.self.now in
    c.right_before.ensures ∙ ap (right c.end.result) (classes_rest items c.args.place c.count.result c.count.ensures) ∙ ap (λ r. right r (drop c.args.place (classes items))) c.end.ensures
