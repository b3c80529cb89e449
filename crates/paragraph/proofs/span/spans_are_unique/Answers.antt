use Rattle.paragraph.proofs.SpanLaws.{span_is_unique}
use Rattle.paragraph.proofs.span.spans_are_unique.Goals as goal

pub returns : goal.returns
returns c = λ was is place removed count r s. span_is_unique _ r s
