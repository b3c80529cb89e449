use Rattle.std.proofs.Common.{arith}
use Rattle.paragraph.proofs.Decides.{changed_there}
use Rattle.paragraph.proofs.change.Change.span_by_scan.Goals as goal

pub overflow_add-result : goal.overflow_add-result
overflow_add-result c =
    let e = c.args.self.now in
    let few = e.paragraph.now.few in
    let a = changed_there e c.in_ok-last.last c.in_ok-last.ensures.0 in
    omega arith
