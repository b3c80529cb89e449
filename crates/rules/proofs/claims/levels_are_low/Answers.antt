use Rattle.rules.proofs.ByContexts.{levels_are_low_lem}
use Rattle.rules.proofs.claims.levels_are_low.Goals as goal

pub returns : goal.returns
returns c = levels_are_low_lem
