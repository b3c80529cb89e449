use Rattle.std.proofs.Common.{ap, ◌∙◌}
use Rattle.bidi.specs.Claims.{left_behind}
use Rattle.bidi.proofs.Acting.{left_acts}
use Rattle.bidi.proofs.contexts.Contexts.after.Goals as goal

pub returns-clause-items : goal.returns-clause-items
returns-clause-items c = λ items e. c.after_part.ensures ∙ ap (λ t. left_behind t c.args.left) e ∙ left_acts items c.args.left
