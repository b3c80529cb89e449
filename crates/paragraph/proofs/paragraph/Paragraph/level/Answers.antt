use Rattle.std.proofs.Common.{ltb, length, Ok, sym, ap, ◌∙◌, arith}
use Rattle.std.proofs.lemmas.Bool.{lt-ltb, le-ltb, cond-true, cond-false}
use Rattle.std.proofs.lemmas.Option.{slice_get_within}
use Rattle.std.proofs.lemmas.Result.{err_from_is_err_and}
use Rattle.tree.specs.Trees.{depth_in}
use Rattle.rules.specs.Order.{at}
use Rattle.paragraph.specs.Paragraphs.{items_of, levels_in}
use Rattle.paragraph.proofs.Levels.{length-levels}
use Rattle.paragraph.proofs.paragraph.Paragraph.level.Goals as goal

pub returns-clause-answer : goal.returns-clause-answer
returns-clause-answer c =
    let p = c.args.self.now in
    let place = c.args.place in
    let read = c.in_ok-depth.ensures.answer in
    let n = length-levels p.direction (items_of p) in
    let h = slice_get_within (items_of p) place _ read.0 in
    (λ t. Ok ((c.at.ensures ∙ ap (λ q. at (levels_in q) place) c.levels.ensures) t, read.1 t))
    ∙ sym (cond-true (ltb place (length (levels_in p))) (Ok (at (levels_in p) place, depth_in p.tree.now place)) _ (lt-ltb place (length (levels_in p)) (omega arith)))

pub returns-in_err-depth-clause-answer : goal.returns-in_err-depth-clause-answer
returns-in_err-depth-clause-answer c =
    let p = c.args.self.now in
    let place = c.args.place in
    let n = length-levels p.direction (items_of p) in
    let read = c.in_err-depth.ensures.answer in
    let past = read.1 in
    let r = err_from_is_err_and c.from_residual.result c.from_residual.ensures.1 in
    rw (r.1, r.2, read.0) (sym (cond-false (ltb place (length (levels_in p))) (Ok (at (levels_in p) place, depth_in p.tree.now place)) _ (le-ltb place (length (levels_in p)) (omega arith))))
