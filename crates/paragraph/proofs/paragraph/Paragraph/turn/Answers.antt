use Rattle.std.proofs.Common.{[], refl, ap, ◌∙◌, arith}
use Rattle.bidi.specs.Items.{classes}
use Rattle.paragraph.specs.Edges.{edges}
use Rattle.paragraph.specs.Paragraphs.{items_of, plain_of}
use Rattle.paragraph.proofs.Levels.{span_of_change}
use Rattle.paragraph.proofs.Telling.{outcome_told}
use Rattle.paragraph.proofs.paragraph.Paragraph.turn.Goals as goal

pub returns : goal.returns
returns c =
    let p = c.args.self.now in
    let items = items_of p in
    let span = span_of_change p.direction c.args.direction items [] items 0 0 (omega arith) refl c.edges-was.result _
    (c.edges-was.ensures ∙ ap (λ b. edges b (classes items) 0 0) c.base.ensures) refl _ c.outcome.ensures.span in
    record {
      items = refl;
      direction = refl;
      room = refl;
      told = outcome_told (plain_of p) c.args.direction items 0 0 0 c.outcome.result (omega arith) c.outcome.ensures.count c.outcome.ensures.base span;
      outcome = record { count = c.outcome.ensures.count; base = c.outcome.ensures.base; span = span };
    }
