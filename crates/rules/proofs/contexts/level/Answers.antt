use Rattle.std.proofs.Common.{◌≡◌, sym, ap, ◌∙◌, ap₂}
use Rattle.rules.specs.Rules.{I}
use Rattle.rules.specs.Contexts.{level_at}
use Rattle.rules.proofs.ByContexts.{levels_by_contexts}
use Rattle.rules.proofs.contexts.level.Goals as goal

pub returns-clause-rules : goal.returns-clause-rules
returns-clause-rules c =
    let base = c.args.base in
    let class = c.args.class in
    let is : c.implicit_level.result ≡ level_at base c.args.left class c.args.right =
    c.implicit_level.ensures ∙ ap (I base) c.settled.ensures in
    λ xs ys e f. is ∙ ap₂ (λ l r. level_at base l class r) e f ∙ sym (levels_by_contexts base xs class ys)
