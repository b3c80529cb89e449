use Rattle.std.proofs.Common.{take, ap, ◌∙◌}
use Rattle.bidi.specs.Items.{classes}
use Rattle.paragraph.specs.Paragraphs.{items_of}
use Rattle.paragraph.specs.Steps.{left}
use Rattle.paragraph.proofs.Stretched.{classes_front}
use Rattle.paragraph.proofs.paragraph.Paragraph.left_at.Goals as goal

pub returns : goal.returns
returns c =
    let items = items_of c.args.self.now in
    c.left_after.ensures ∙ ap (left c.start.result) (classes_front items c.args.place) ∙ ap (λ l. left l (take c.args.place (classes items))) c.start.ensures
