use Rattle.std.proofs.Common.{ap, ◌∙◌}
use Rattle.std.specs.List.{between}
use Rattle.bidi.specs.Sums.{column_ops, context_ops}
use Rattle.paragraph.specs.Paragraphs.{items_of}
use Rattle.paragraph.proofs.Stored.{second_total}
use Rattle.paragraph.proofs.paragraph.Paragraph.contexts.Goals as goal

pub returns : goal.returns
returns c = ap (λ t. t.second) c.total.ensures ∙ second_total column_ops context_ops (between c.args.first c.args.end (items_of c.args.self.now))
