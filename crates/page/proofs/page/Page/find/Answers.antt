use Rattle.std.proofs.Common.{ap, ◌∙◌}
use Rattle.std.proofs.lemmas.Result.{err_from_is_err_and}
use Rattle.page.specs.Pages.{entries_of}
use Rattle.page.proofs.Finding.{looked_up, find_is, read_is}
use Rattle.page.proofs.Totals.{right}
use Rattle.page.proofs.page.Page.find.Goals as goal

pub returns-in_err-place : goal.returns-in_err-place
returns-in_err-place c =
    let page = c.args.self.now in
    let p = err_from_is_err_and c.from_residual.result c.from_residual.ensures.1 in
    rw (p.1, p.2) (ap (looked_up (entries_of page)) (c.in_err-place.ensures (right page)) ∙ find_is (entries_of page) c.args.line page.few)

pub returns-in_err-entry : goal.returns-in_err-entry
returns-in_err-entry c =
    let page = c.args.self.now in
    let p = err_from_is_err_and c.from_residual-in_err-entry.result c.from_residual-in_err-entry.ensures.1 in
    rw (p.1, p.2) (read_is (entries_of page) c.args.line c.in_ok-place.place _ _ page.few (c.in_ok-place.ensures (right page)) c.in_err-entry.ensures.answer)

pub returns : goal.returns
returns c =
    let page = c.args.self.now in
    read_is (entries_of page) c.args.line c.in_ok-place.place _ _ page.few (c.in_ok-place.ensures (right page)) c.in_ok-entry.ensures.answer
