use Rattle.std.proofs.Common.{arith}
use Rattle.paragraph.proofs.Decides.{changed_there}
use Rattle.paragraph.proofs.change.Change.last_changed.Goals as goal

pub loop-i-init : goal.loop-i-init
loop-i-init c = λ k p. let all = c.count-i.ensures in let a = changed_there c.args.self.now k p in omega arith
