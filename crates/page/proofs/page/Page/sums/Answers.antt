use Rattle.std.proofs.Common.{sym, ap, ◌∙◌}
use Rattle.tree.specs.Plain.{numbered}
use Rattle.page.specs.Pages.{entries_of}
use Rattle.page.proofs.Finding.{whole_is}
use Rattle.page.proofs.Totals.{right}
use Rattle.page.proofs.page.Page.sums.Goals as goal

pub returns : goal.returns
returns c =
    let page = c.args.self.now in
    let e = whole_is (entries_of page) c.len.result c.unwrap.result page.few c.len.ensures (ap numbered (sym c.unwrap.ensures) ∙ c.total.ensures.answer (right page)) in
    record { lines = ap (λ s. s.lines) e; hits = ap (λ s. s.hits) e }
