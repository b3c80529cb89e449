use Rattle.std.proofs.Common.{refl}
use Rattle.rules.specs.Rules.{levels}
use Rattle.rules.proofs.claims.worked_cases_stand.Goals as goal

pub returns : goal.returns
unfolding levels
returns c = (refl, refl, refl, refl, refl, refl, refl, refl, refl, refl, refl, refl)
