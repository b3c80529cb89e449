use Rattle.std.proofs.Common.{◌≡◌, ◌+◌, [], ◌∷◌, ◌++◌, take, sym, ap, ◌∙◌, arith}
use Rattle.std.proofs.lemmas.List.{take_more}
use Rattle.tree.specs.History.{change_answer, after_change, after_all, answers_all}
use Rattle.tree.specs.Plain.{numbered}
use Rattle.tree.specs.Trees.{elements_of, capacity_of}
use Rattle.tree.proofs.Histories.{after_more, answers_more, mapped_more, spare_more}
use Rattle.tree.proofs.tree.Tree.change_all.Goals as goal

pub loop-i-preserved : goal.loop-i-preserved
loop-i-preserved g c =
    let i = c.loop-i.i in
    let inv = c.loop-i.invariant in
    let room = capacity_of c.args.self.now in
    let xs = elements_of c.args.self.now in
    let changes = c.args.changes.now in
    let x = c.index-changes-i.result in
    let here = elements_of c.loop-i.self in
    let cs = take i changes in
    let pushed : take (i + 1) changes ≡ cs ++ (x ∷ []) = take_more changes i x c.loop-i-test.true ∙ ap (λ y. cs ++ (y ∷ [])) (sym c.index-changes-i.is) in
    let fits = c.requires in
    let long = c.loop-i.auto.outcomes in (
      c.change.ensures.elements ∙ ap (λ r. after_change r here x) inv.4 ∙ ap (λ l. after_change room l x) inv.0 ∙ sym (ap (after_all room xs) pushed ∙ after_more room xs cs x),
      mapped_more numbered c.loop-i.outcomes i c.change.result (omega arith) inv.1
          ∙ ap (λ a. answers_all room xs cs ++ (a ∷ [])) (c.change.ensures.answer ∙ ap (λ r. change_answer r here x) inv.4 ∙ ap (λ l. change_answer room l x) inv.0)
          ∙ sym (ap (answers_all room xs) pushed ∙ answers_more room xs cs x),
      spare_more c.loop-i.outcomes c.args.outcomes.now i c.change.result inv.2,
      (λ t. c.change.ensures.totals (inv.3 t)),
      c.change.ensures.capacity ∙ inv.4,
    )
