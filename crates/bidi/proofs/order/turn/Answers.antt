use Rattle.std.proofs.Common.{◌∙◌}
use Rattle.rules.specs.Order.{at}
use Rattle.bidi.proofs.Runs.{next_step}
use Rattle.bidi.proofs.order.turn.Goals as goal

pub loop-i-preserved : goal.loop-i-preserved
loop-i-preserved c =
    let t = c.turn_run-i in
    next_step (at c.args.levels.now) c.args.k c.loop-i.list t.new.list c.loop-i.i t.result t.ensures.within t.ensures.run t.ensures.list ∙ c.loop-i.invariant
