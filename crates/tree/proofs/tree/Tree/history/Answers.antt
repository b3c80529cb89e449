use Rattle.std.proofs.Common.{◌≡◌, ◌-◌, ◌^◌, ◌≤◌, [], map, length, sym, refl, ap, ◌∙◌, subst}
use Rattle.tree.specs.History.{after_all, answers_all, question_answer}
use Rattle.tree.specs.Trees.{shape, elements_of, capacity_of, depth_in, RowsSound, least, places_at}
use Rattle.tree.proofs.Facts.{deep_enough, sparse_enough}
use Rattle.tree.proofs.tree.Tree.history.Goals as goal

pub returns : goal.returns
unfolding shape elements_of depth_in RowsSound
returns g c =
    let k = g.T.Measure.ops in
    let room = capacity_of c.args.self.now in
    let changes = c.args.recording.now.changes.now in
    let questions = c.args.recording.now.questions.now in
    let tree = c.change_all.new.self in
    let plain = after_all room [] changes in
    let held : elements_of tree ≡ plain =
    c.change_all.ensures.elements ∙ ap (λ r. after_all r (elements_of c.clear.new.self) changes) c.clear.ensures.capacity ∙ ap (λ xs. after_all room xs changes) c.clear.ensures.elements in
    let right = c.change_all.ensures.totals c.clear.ensures.totals in
    record {
      answer = sym c.in_ok-fits.was ∙ c.fits.ensures;
      same = (refl, refl, refl, refl);
      law = record {
        answered = c.change_all.ensures.answered ∙ ap (λ r. answers_all r (elements_of c.clear.new.self) changes) c.clear.ensures.capacity ∙ ap (λ xs. answers_all room xs changes) c.clear.ensures.elements;
        held = held;
        rows = tree.sound;
        totals = right;
        told = c.ask_all.ensures.told right ∙ ap (λ xs. map (question_answer k xs (depth_in tree)) questions) held;
        deep = λ p h. subst (λ xs. least (depth_in tree p) ≤ length xs) held (deep_enough {h = tree.heads} tree.sound p);
        sparse = λ d. subst (λ xs. places_at (depth_in tree) d (length xs) ≤ 2 ^ (d - 1)) held (sparse_enough {h = tree.heads} tree.sound d);
      };
      spare = (c.change_all.ensures.spare, c.ask_all.ensures.spare);
      refused = (tt, (tt, tt));
    }
