use Rattle.std.proofs.Common.{true, false, refl, ap, ◌∙◌}
use Rattle.std.specs.Str.{bytes_eq}
use Rattle.pages.proofs.Words.{picks}
use Rattle.pages.proofs.parse.parse.Goals as goal

pub returns-then-eq : goal.returns-then-eq
returns-then-eq c = c.put.ensures ∙ picks c.args.line.now _ _ true _ _ c.cut.ensures.before c.cut.ensures.behind (c.if-eq.ensures ∙ ap (bytes_eq c.cut.result.0.now) c.as_slice.ensures) refl refl

pub returns-then-eq-2 : goal.returns-then-eq-2
returns-then-eq-2 c = c.take.ensures ∙ picks c.args.line.now _ _ false true _ c.cut.ensures.before c.cut.ensures.behind (c.if-eq.ensures ∙ ap (bytes_eq c.cut.result.0.now) c.as_slice.ensures) (c.if-eq-2.ensures ∙ ap (bytes_eq c.cut.result.0.now) c.as_slice-else-eq.ensures) refl

pub returns-then-eq-3 : goal.returns-then-eq-3
returns-then-eq-3 c = c.find.ensures ∙ picks c.args.line.now _ _ false false true c.cut.ensures.before c.cut.ensures.behind (c.if-eq.ensures ∙ ap (bytes_eq c.cut.result.0.now) c.as_slice.ensures) (c.if-eq-2.ensures ∙ ap (bytes_eq c.cut.result.0.now) c.as_slice-else-eq.ensures) (c.if-eq-3.ensures ∙ ap (bytes_eq c.cut.result.0.now) c.as_slice-else-eq-2.ensures)

pub returns-else-eq-3 : goal.returns-else-eq-3
returns-else-eq-3 c = picks c.args.line.now _ _ false false false c.cut.ensures.before c.cut.ensures.behind (c.if-eq.ensures ∙ ap (bytes_eq c.cut.result.0.now) c.as_slice.ensures) (c.if-eq-2.ensures ∙ ap (bytes_eq c.cut.result.0.now) c.as_slice-else-eq.ensures) (c.if-eq-3.ensures ∙ ap (bytes_eq c.cut.result.0.now) c.as_slice-else-eq-2.ensures)
