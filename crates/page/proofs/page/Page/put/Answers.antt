use Rattle.std.proofs.Common.{◌≤◌, length, sym, ap, ◌∙◌, subst}
use mathlib.Core.Logic.{∥∥₁_map}
use borrow.Rule.Reborrow.{re_v}
use Rattle.std.proofs.lemmas.Result.{err_from_is_err_and}
use Rattle.tree.specs.Trees.{elements_of}
use Rattle.page.specs.Entries.{in_range}
use Rattle.page.specs.Pages.{entries_of, room_of}
use Rattle.page.proofs.Alike.{ranged, same_page}
use Rattle.page.proofs.Keeping.{capacity_le, few_insert, put_inserts, put_keeps}
use Rattle.page.proofs.page.Page.put.Goals as goal

pub invariant_of-self : goal.invariant_of-self
invariant_of-self c = record {
  totals = ∥∥₁_map c.args.self.now.totals c.insert.ensures.totals;
  few = subst (λ xs. length xs ≤ 4096) (sym c.insert.ensures.elements) (few_insert _ _ _ _ (capacity_le _) c.args.self.now.few);
}

pub returns-in_err-insert : goal.returns-in_err-insert
returns-in_err-insert c =
    let h = c.in_err-insert.ensures in
    let f = c.in_ok-entry.ensures.fields in
    let p = err_from_is_err_and c.from_residual-in_err-insert.result c.from_residual-in_err-insert.ensures.1 in
    let a = c.args in
    let room = room_of a.self.now in
    let xs = entries_of a.self.now in
    let answer = h.answer ∙ put_inserts room xs a.place a.key a.lines a.hits (ap in_range (sym f.1) ∙ ranged c.in_ok-entry.entry) in
    rw (p.1, p.2) (record {
      answer = answer;
      entries = ap elements_of h.refused ∙ put_keeps room xs a.place a.key a.lines a.hits _ answer;
      refused = same_page _ _ (ap (λ t. re_v t c.args.self.now.tree) h.refused);
      room = h.capacity;
    })
