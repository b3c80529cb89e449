use Rattle.std.proofs.Common.{◌+◌, sym, ap, ◌∙◌, subst}
use Rattle.rules.specs.Rules.{base_level}
use Rattle.bidi.specs.Items.{classes}
use Rattle.paragraph.specs.Edges.{ChangedBy, IsChanged, edges}
use Rattle.paragraph.specs.Paragraphs.{items_of}
use Rattle.paragraph.specs.Spans.{SpanOf}
use Rattle.paragraph.proofs.paragraph.Paragraph.outcome.Goals as goal
use Rattle.paragraph.proofs.paragraph.Paragraph.outcome.Goals.{then-eq, else-eq}

pub returns : goal.returns
unfolding IsChanged
returns c =
    let p = c.args.self.now in
    let cs = classes (items_of p) in
    let place = c.args.place in
    let count = c.args.count in
    let was = c.args.was in
    let told : SpanOf (ChangedBy was c.edges-is.result cs place count) c.if-eq.span =
    elim c.if-eq.branch [
      | then-eq w ↦ subst (SpanOf (ChangedBy was c.edges-is.result cs place count)) (sym w.span-is) w.span_by_walk-span.ensures
      | else-eq w ↦ subst (SpanOf (ChangedBy was c.edges-is.result cs place count)) (sym w.span-is) w.span_by_scan-span.ensures
    ] in
    record {
      count = c.count.ensures;
      base = c.level.ensures ∙ ap base_level c.base-base.ensures;
      span = subst (λ e. SpanOf (ChangedBy was e cs place count) c.if-eq.span) (c.edges-is.ensures ∙ ap (λ b. edges b cs place (place + count)) c.base-base.ensures) told;
    }
