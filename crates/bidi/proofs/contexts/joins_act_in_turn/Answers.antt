use Rattle.bidi.proofs.Acting.{in_turn}
use Rattle.bidi.proofs.contexts.joins_act_in_turn.Goals as goal

pub returns : goal.returns
returns c = in_turn
