use Rattle.std.proofs.Common.{◌≡◌, ◌+◌, ◌<◌, cond, ◌++◌, length, is_err, string_bytes, sym, ap, ◌∙◌, add-zero, arith}
use borrow.Author.Tests.{eqb-false}
use Rattle.pages.proofs.Sofar.{one_more}
use Rattle.pages.proofs.session.run.Goals as goal
use Rattle.pages.proofs.session.run.Goals.{then-is_err, else-is_err}

pub loop-rest-preserved : goal.loop-rest-preserved
loop-rest-preserved c =
    let some : 0 < length c.loop-rest.rest.now = omega (arith, eqb-false (length c.loop-rest.rest.now) 0 (sym c.is_empty.ensures ∙ c.loop-rest-test.true)) in
    let tested = c.is_err.ensures.value in
    let counts : c.if-is_err.refused ≡ c.loop-rest.refused + cond (is_err c.step-outcome.result) 1 0 =
    elim c.if-is_err.branch [
      | then-is_err w ↦ w.refused-is ∙ ap (λ t. c.loop-rest.refused + cond t 1 0) (sym w.if-is_err.true ∙ tested)
      | else-is_err w ↦ w.refused-is ∙ sym (add-zero _) ∙ ap (λ t. c.loop-rest.refused + cond t 1 0) (sym w.if-is_err.false ∙ tested)
    ] in
    one_more c.loop-rest.invariant c.step-outcome.result _ _ _ _ _ _ _
    (c.next_line.ensures.lines some) (omega (arith, c.next_line.ensures.less some))
    c.step-outcome.ensures.answer c.step-outcome.ensures.entries c.step-outcome.ensures.room
    counts c.in_ok-report.ensures (c.in_ok-push_str.ensures.bytes ∙ ap (λ b. string_bytes c.loop-rest.printed ++ b) c.as_str.ensures.value)
