use Rattle.std.proofs.Common.{ap}
use mathlib.Core.Logic.{∥∥₁_map}
use borrow.Rule.Reborrow.{re_v}
use Rattle.std.proofs.lemmas.Result.{err_from_is_err_and}
use Rattle.page.proofs.Alike.{same_page}
use Rattle.page.proofs.page.Page.take.Goals as goal

pub invariant_of-self-clause-totals : goal.invariant_of-self-clause-totals
invariant_of-self-clause-totals c = ∥∥₁_map c.args.self.now.totals c.remove.ensures.totals

pub returns-in_err-remove : goal.returns-in_err-remove
returns-in_err-remove c =
    let h = c.in_err-remove.ensures in
    let p = err_from_is_err_and c.from_residual.result c.from_residual.ensures.1 in
    rw (p.1, p.2) (record {
      answer = h.answer;
      entries = h.elements;
      refused = same_page _ _ (ap (λ t. re_v t c.args.self.now.tree) h.refused);
      room = h.capacity;
    })
