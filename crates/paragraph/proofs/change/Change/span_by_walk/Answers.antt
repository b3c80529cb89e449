use Rattle.std.proofs.Common.{◌+◌, ◌⊎◌, take, drop, sym, subst}
use Rattle.rules.specs.Contexts.{start, end}
use Rattle.bidi.specs.Items.{classes}
use Rattle.paragraph.specs.Edges.{ChangedBy, IsChanged, Other, OtherBefore, OtherBehind, Moved}
use Rattle.paragraph.specs.Paragraphs.{items_of}
use Rattle.paragraph.specs.Spans.{SpanOf, Given}
use Rattle.paragraph.proofs.SpanLaws.{hull_span}
use Rattle.paragraph.proofs.change.Change.span_by_walk.Goals as goal

pub returns : goal.returns
unfolding IsChanged
returns c =
    let cs = classes (items_of c.args.self.now.paragraph.now) in
    let place = c.args.self.now.place in
    let count = c.args.self.now.count in
    let was = c.args.self.now.was in
    let is = c.args.self.now.is in
    let P = OtherBefore was is cs place in
    let Q = Moved (place + count) (OtherBehind was is cs (place + count)) in
    let new : SpanOf (Given place count) c.stretch-given.result = c.stretch-given.ensures in
    let front : SpanOf P c.walk_before.result =
    subst (λ b. SpanOf (Other was.base (start was.base) was.right b (start b) is.right (take place cs)) c.walk_before.result) c.requires c.walk_before.ensures in
    let rest : SpanOf Q c.walk_behind.result =
    subst (λ b. SpanOf (Moved (place + count) (Other was.base was.left (end was.base) b is.left (end b) (drop (place + count) cs))) c.walk_behind.result) c.requires c.walk_behind.ensures in
    let both : SpanOf (λ i. P i ⊎ Q i) c.hull.result = subst (SpanOf (λ i. P i ⊎ Q i)) (sym c.hull.ensures) (hull_span P Q c.walk_before.result c.walk_behind.result front rest) in
    subst (SpanOf (ChangedBy was is cs place count)) (sym c.hull-2.ensures) (hull_span (Given place count) (λ i. P i ⊎ Q i) c.stretch-given.result c.hull.result new both)
