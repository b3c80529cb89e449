use Rattle.std.proofs.Common.{◌≡◌, map, length, take, sym, refl, ap, ◌∙◌, subst}
use Rattle.tree.specs.Trees.{depth_in}
use Rattle.paragraph.specs.Paragraphs.{room_of, plain_of}
use Rattle.history.specs.Law.{empty}
use Rattle.paragraph.specs.Plain.{Plain}
use Rattle.history.specs.Plain.{after_all, Answered}
use Rattle.history.specs.Questions.{question_answer}
use Rattle.history.proofs.Depths.{deep_in, sparse_in}
use Rattle.history.proofs.history.paragraph_history.Goals as goal

pub returns : goal.returns
returns c =
    let room = room_of c.args.paragraph.now in
    let recorded = c.args.recorded.now in
    let changes = c.args.recording.now.changes.now in
    let questions = c.args.recording.now.questions.now in
    let emptied = c.empty_out.new.paragraph in
    let p = c.change_all.new.paragraph in
    let told = take (length changes) c.change_all.new.outcomes in
    let start : plain_of emptied ≡ empty c.args.direction = λ t. record { direction = c.empty_out.ensures.direction t; items = c.empty_out.ensures.items t } in
    let same = c.empty_out.ensures.room in
    let plain : plain_of p ≡ after_all room recorded (empty c.args.direction) changes =
    c.change_all.ensures.plain ∙ ap (λ n. after_all n recorded (plain_of emptied) changes) same ∙ ap (λ q. after_all room recorded q changes) start in
    let items = ap (λ (q : Plain). q.items) plain in
    record {
      answer = sym c.in_ok-fits.was ∙ c.fits.ensures;
      same = (refl, refl, refl, refl);
      law = record {
        answered = subst (λ q. Answered room recorded q changes told) start (subst (λ n. Answered n recorded (plain_of emptied) changes told) same c.change_all.ensures.answered);
        plain = plain;
        told = c.ask_all.ensures.told ∙ ap (λ q. map (question_answer q (depth_in p.tree.now)) questions) plain;
        deep = λ place h. deep_in p _ items place;
        sparse = sparse_in p _ items;
      };
      spare = (c.change_all.ensures.spare, c.ask_all.ensures.spare);
      refused = (tt, (tt, tt));
    }
