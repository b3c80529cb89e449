use Rattle.std.proofs.Common.{◌≡◌, ◌+◌, take, sym, ap, ◌∙◌, arith}
use Rattle.rules.specs.Contexts.{after, before, start}
use Rattle.bidi.specs.Items.{classes}
use Rattle.paragraph.specs.Paragraphs.{items_of}
use Rattle.paragraph.specs.Steps.{left}
use Rattle.paragraph.proofs.Stretched.{length-classes}
use Rattle.paragraph.proofs.Walks.{left_more, right_more}
use Rattle.paragraph.proofs.paragraph.Paragraph.near_edges.Goals as goal
use Rattle.paragraph.proofs.paragraph.Paragraph.near_edges.Goals.{then-first-end, else-first-end}

pub returns : goal.returns
returns c =
    let items = items_of c.args.self.now in
    let cs = classes items in
    let b = c.args.base in
    let first = c.args.first in
    let end = c.args.end in
    let n = length-classes items in
    let h = c.requires.within in
    let ordered = c.requires.ordered in
    let near = c.requires.near in
    let at = c.surroundings-at.ensures in
    let r = c.before-2.ensures ∙ (λ t. before (at t).class (at t).right) ∙ sym (right_more _ cs first (omega arith)) in
    let l : c.if-first-end.left ≡ left (start b) (take end cs) =
    elim c.if-first-end.branch [
      | then-first-end w ↦ w.left-is ∙ ap (λ s. s.left) at ∙ ap (λ k. left (start b) (take k cs)) w.if-first-end.true
      | else-first-end w ↦
          let other = w.if-first-end.false in
          let next : first + 1 ≡ end = omega arith in
          w.left-is ∙ w.after-left.ensures ∙ (λ t. after (at t).left (at t).class) ∙ sym (left_more (start b) cs first (omega arith)) ∙ ap (λ k. left (start b) (take k cs)) next
    ] in
    λ t. record { base = b; right = r t; left = l t }
