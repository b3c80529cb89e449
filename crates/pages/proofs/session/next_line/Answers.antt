use Rattle.std.proofs.Common.{◌∷◌, length, sym, ap, ◌∙◌, arith}
use Rattle.std.specs.Option.{option_map}
use Rattle.std.proofs.lemmas.List.{take_rest, drop_all}
use Rattle.pages.specs.Lines.{lines_in, lines_left}
use Rattle.pages.proofs.Marks.{behind_less}
use Rattle.pages.proofs.Pieces.{lines_cut}
use Rattle.pages.proofs.session.next_line.Goals as goal

pub returns-in-Some : goal.returns-in-Some
returns-in-Some c =
    let s = c.args.text.now in
    let left = c.cut.ensures.behind in
    let is = ap (option_map (λ x. x.now)) c.in-Some.is in
    record {
      lines = λ some. lines_cut s some ∙ (λ i. sym c.cut.ensures.before i ∷ lines_left ((sym left ∙ is) i));
      less = λ some. behind_less 10 s c.in-Some.rest.now (sym left ∙ is);
    }

pub returns-in-None : goal.returns-in-None
returns-in-None c =
    let s = c.args.text.now in
    let left = sym c.cut.ensures.behind ∙ ap (option_map (λ x. x.now)) c.in-None.is in
    let none = take_rest s (length s) ∙ drop_all (length s) s (omega arith) in
    record {
      lines = λ some. lines_cut s some ∙ (λ i. sym c.cut.ensures.before i ∷ lines_left (left i)) ∙ ap (λ r. c.cut.result.0.now ∷ lines_in r) (sym none);
      less = λ some. omega (arith, ap length none);
    }
