use Rattle.std.proofs.Common.{◌∷◌, sym, ap, ◌∙◌}
use Rattle.std.specs.Option.{option_map}
use Rattle.pages.specs.Lines.{fields_left}
use Rattle.pages.proofs.Pieces.{fields_cut}
use Rattle.pages.proofs.parse.field.Goals as goal

pub returns : goal.returns
returns c =
    ap (λ o. fields_left (option_map (λ x. x.now) o)) c.in-Some.is
    ∙ fields_cut c.in-Some.bytes.now
    ∙ (λ i. sym c.cut.ensures.before i ∷ fields_left (sym c.cut.ensures.behind i))
