use Rattle.rules.proofs.ByContexts.{levels_by_contexts}
use Rattle.rules.proofs.claims.contexts_give_the_levels.Goals as goal

pub returns : goal.returns
returns c = levels_by_contexts
