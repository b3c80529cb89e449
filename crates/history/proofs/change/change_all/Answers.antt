use Rattle.std.proofs.Common.{◌≡◌, ◌+◌, [], ◌∷◌, ◌++◌, get_or, take, set, sym, ap, ◌∙◌, subst, arith}
use Rattle.std.proofs.lemmas.List.{take_more, take_more_set, length-take-le}
use Rattle.tree.proofs.Histories.{spare_more}
use Rattle.paragraph.specs.Paragraphs.{room_of, plain_of}
use Rattle.history.specs.Plain.{after_change, after_all, Answer, Answered}
use Rattle.history.specs.declared.request.Change.TheVariants.{Edit}
use Rattle.history.proofs.Histories.{after_more, answered_more}
use Rattle.history.proofs.change.change_all.Goals as goal

pub loop-i-preserved : goal.loop-i-preserved
loop-i-preserved c =
    let i = c.loop-i.i in
    let inv = c.loop-i.invariant in
    let room = room_of c.args.paragraph.now in
    let recorded = c.args.recorded.now in
    let start = plain_of c.args.paragraph.now in
    let changes = c.args.changes.now in
    let outcomes = c.loop-i.outcomes in
    let x = get_or changes i (Edit 0 0 0 0) in
    let r = c.carry_out.result in
    let here = plain_of c.loop-i.paragraph in
    let cs = take i changes in
    let pushed : take (i + 1) changes ≡ cs ++ (x ∷ []) = take_more changes i (Edit 0 0 0 0) c.loop-i-test.true in
    let fits = c.requires in
    let long = c.loop-i.auto.outcomes in
    let written : take (i + 1) (set outcomes i r) ≡ take i outcomes ++ (r ∷ []) = take_more_set outcomes i r (omega arith) in
    let lc = length-take-le i changes (omega arith) in
    let lo = length-take-le i outcomes (omega arith) in
    let answer : Answer room recorded (after_all room recorded start cs) x r =
    subst (λ p. Answer room recorded p x r) inv.0 (subst (λ n. Answer n recorded here x r) inv.3 c.carry_out.ensures.answer) in (
      c.carry_out.ensures.plain ∙ ap (λ n. after_change n recorded here x) inv.3 ∙ ap (λ p. after_change room recorded p x) inv.0 ∙ sym (ap (after_all room recorded start) pushed ∙ after_more room recorded start cs x),
      subst (λ l. Answered room recorded start l (take (i + 1) (set outcomes i r))) (sym pushed) (subst (Answered room recorded start (cs ++ (x ∷ []))) (sym written) (answered_more room recorded start cs (take i outcomes) x r (omega arith) inv.1 answer)),
      spare_more outcomes c.args.outcomes.now i r inv.2,
      c.carry_out.ensures.room ∙ inv.3,
    )
