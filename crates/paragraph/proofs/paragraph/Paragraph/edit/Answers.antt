use Rattle.std.proofs.Common.{◌+◌, ◌≤◌, length, Err, sym, refl, ap, ◌∙◌, subst, arith}
use mathlib.Core.Logic.{∥∥₁_map}
use borrow.Rule.Reborrow.{re_v}
use Rattle.std.proofs.lemmas.Result.{err_from_is_err_and}
use Rattle.tree.specs.Trees.{elements_of}
use Rattle.bidi.specs.Items.{classes}
use Rattle.paragraph.specs.Edges.{edges}
use Rattle.paragraph.specs.Faults.{plain}
use Rattle.paragraph.specs.Paragraphs.{items_of, room_of, plain_of}
use Rattle.paragraph.proofs.Edits.{same_paragraph, few_after, length-spliced, replace_refused, replace_accepted, edit_full, edit_done}
use Rattle.paragraph.proofs.Levels.{span_of_change}
use Rattle.paragraph.proofs.Telling.{outcome_told, told_refused, told_done}
use Rattle.paragraph.proofs.paragraph.Paragraph.edit.Goals as goal

pub invariant_of-self : goal.invariant_of-self
invariant_of-self c = record {
  totals = ∥∥₁_map c.args.self.now.totals c.replace.ensures.totals;
  few = subst (λ xs. length xs ≤ 4096) (sym c.replace.ensures.elements) (few_after _ _ _ _ _ c.args.self.now.few);
}

pub returns-in_err-replace : goal.returns-in_err-replace
returns-in_err-replace c =
    let p = c.args.self.now in
    let items = items_of p in
    let new = c.args.items.now in
    let place = c.args.place in
    let removed = c.args.removed in
    let h = c.in_err-replace.ensures in
    let n = c.count-count.ensures in
    let r = err_from_is_err_and c.from_residual-in_err-replace.result c.from_residual-in_err-replace.ensures.1 in
    let full = replace_refused (room_of p) items new place (place + removed) (omega arith) (omega arith) _ h.answer in
    let many = full.1 in
    let a = edit_full (room_of p) items place removed new (omega arith) (omega arith) c.in_ok-narrow_all.ensures (omega arith) in
    let refused = ap (λ m. Err (plain m)) (sym full.0) ∙ a.0 in
    rw (r.1, r.2) (record {
      told = told_refused (room_of p) (plain_of p) place removed new _ refused;
      answer = refused;
      items = ap elements_of h.refused ∙ a.1;
      direction = refl;
      room = h.capacity;
      refused = same_paragraph _ _ (ap (λ t. re_v t p.tree) h.refused) refl;
      outcome = tt;
    })

pub returns : goal.returns
returns c =
    let p = c.args.self.now in
    let items = items_of p in
    let new = c.args.items.now in
    let place = c.args.place in
    let removed = c.args.removed in
    let n = c.count-count.ensures in
    let h = c.in_ok-replace.ensures in
    let done = replace_accepted (room_of p) items new place (place + removed) (omega arith) (omega arith) h.answer in
    let fits = done.0 in
    let a = edit_done (room_of p) items place removed new (omega arith) (omega arith) c.in_ok-narrow_all.ensures (omega arith) in
    let change = h.elements ∙ done.1 in
    let long = ap length change ∙ length-spliced items new place (place + removed) (omega arith) (omega arith) in
    let span = span_of_change p.direction p.direction items new _ place removed (omega arith) change c.edges-was.result _
    (c.edges-was.ensures ∙ ap (λ b. edges b (classes items) place (place + removed)) c.base.ensures) refl _ c.outcome.ensures.span in
    record {
      told = told_done (room_of p) (plain_of p) place removed new c.outcome.result _ a.0 (change ∙ a.1)
          (outcome_told (plain_of p) p.direction _ place removed (length new) c.outcome.result (omega arith) c.outcome.ensures.count c.outcome.ensures.base span);
      answer = a.0;
      items = change ∙ a.1;
      direction = refl;
      room = h.capacity;
      refused = tt;
      outcome = record { count = c.outcome.ensures.count; base = c.outcome.ensures.base; span = span };
    }
