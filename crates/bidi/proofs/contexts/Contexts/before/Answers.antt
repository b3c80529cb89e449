use Rattle.std.proofs.Common.{ap, ◌∙◌}
use Rattle.bidi.specs.Claims.{right_before}
use Rattle.bidi.proofs.Acting.{right_acts}
use Rattle.bidi.proofs.contexts.Contexts.before.Goals as goal

pub returns-clause-items : goal.returns-clause-items
returns-clause-items c = λ items e. c.before_part.ensures ∙ ap (λ t. right_before t c.args.right) e ∙ right_acts items c.args.right
