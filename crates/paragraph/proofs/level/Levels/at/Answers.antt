use Rattle.std.proofs.Common.{get_or, sym, ap, ◌∙◌, arith}
use Rattle.rules.specs.Contexts.{level_at}
use Rattle.rules.specs.Rules.{levels}
use Rattle.bidi.specs.Items.{classes}
use Rattle.paragraph.specs.Paragraphs.{items_of}
use Rattle.paragraph.proofs.Levels.{level_by_place}
use Rattle.paragraph.proofs.Stretched.{length-classes}
use Rattle.paragraph.proofs.level.Levels.at.Goals as goal

pub returns : goal.returns
returns c =
    let items = items_of c.args.self.now.paragraph.now in
    let cs = classes items in
    let b = c.args.self.now.base in
    let n = length-classes items in
    let h = c.requires in
    let at = c.surroundings-at.ensures in
    c.level.ensures.is ∙ (λ t. level_at b (at t).left (at t).class (at t).right)
    ∙ sym (level_by_place b cs c.args.place (omega arith)) ∙ ap (λ b. get_or (levels b cs) c.args.place 0) c.args.self.now.based
