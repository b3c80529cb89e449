use Rattle.std.proofs.Common.{refl, arith, rules}
use Rattle.std.proofs.lemmas.Grind.{common_steps}
use Rattle.std.proofs.lemmas.List.Recursion.{max_bounds, max_least}
use Rattle.rules.specs.Order.{highest}
use Rattle.bidi.proofs.order.highest_of.Goals as goal

pub returns : goal.returns
returns c =
    let bounds = max_bounds highest (λ x. x) refl (λ _ _. refl) c.args.levels.now in
    let least = max_least highest (λ x. x) refl (λ _ _. refl) c.args.levels.now 0 c.unwrap_or.result (search rules) in
    grind (arith, common_steps, bounds, least)
