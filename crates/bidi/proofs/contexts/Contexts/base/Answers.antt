use Rattle.std.proofs.Common.{ap, ◌∙◌}
use Rattle.bidi.specs.Actions.{strong_at}
use Rattle.bidi.specs.Items.{classes}
use Rattle.bidi.proofs.Acting.{strong_acts}
use Rattle.bidi.proofs.contexts.Contexts.base.Goals as goal

pub returns : goal.returns
returns c = λ items e. c.base.ensures (classes items) (c.strong_at.ensures ∙ ap (λ t. strong_at t.strong) e ∙ strong_acts items)
