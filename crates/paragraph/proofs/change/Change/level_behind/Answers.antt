use Rattle.std.proofs.Common.{◌+◌, ap, ◌∙◌}
use Rattle.bidi.specs.Items.{classes}
use Rattle.paragraph.specs.Paragraphs.{items_of}
use Rattle.paragraph.specs.Steps.{left}
use Rattle.paragraph.proofs.Decides.{level_rest}
use Rattle.paragraph.proofs.Stretched.{classes_between}
use Rattle.paragraph.proofs.change.Change.level_behind.Goals as goal

pub returns : goal.returns
returns c =
    let items = items_of c.args.self.now.paragraph.now in
    let e = c.args.edges in
    level_rest (classes items) e.base (c.args.self.now.place + c.args.self.now.count) c.args.i e.left _ _ _ _ c.requires.order
    (c.left_after-left.ensures ∙ ap (left e.left) (classes_between items (c.args.self.now.place + c.args.self.now.count) c.args.i)) c.class_at.ensures c.right_at-right.ensures c.level.ensures.is
