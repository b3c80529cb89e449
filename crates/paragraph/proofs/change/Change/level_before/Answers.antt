use Rattle.std.proofs.Common.{◌+◌, ap, ◌∙◌}
use Rattle.bidi.specs.Items.{classes}
use Rattle.paragraph.specs.Paragraphs.{items_of}
use Rattle.paragraph.specs.Steps.{right}
use Rattle.paragraph.proofs.Decides.{level_front}
use Rattle.paragraph.proofs.Stretched.{classes_between}
use Rattle.paragraph.proofs.change.Change.level_before.Goals as goal

pub returns : goal.returns
returns c =
    let items = items_of c.args.self.now.paragraph.now in
    let e = c.args.edges in
    level_front (classes items) e.base c.args.self.now.place c.args.i e.right _ _ _ _ c.requires
    c.left_at-left.ensures c.class_at.ensures (c.right_before-right.ensures ∙ ap (right e.right) (classes_between items (c.args.i + 1) c.args.self.now.place)) c.level.ensures.is
