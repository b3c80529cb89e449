use Rattle.std.proofs.Common.{ap, ◌∙◌, arith}
use Rattle.tree.specs.Plain.{after_remove}
use Rattle.tree.specs.Trees.{elements_of}
use Rattle.tree.proofs.Splices.{remove_more}
use Rattle.tree.proofs.tree.Tree.remove_all.Goals as goal

pub loop-gone-preserved : goal.loop-gone-preserved
loop-gone-preserved g c =
    let xs = elements_of c.args.self.now in
    let n = c.loop-gone._gone in
    let low = c.loop-gone.auto._gone in
    let within = c.requires.within in (
      c.remove.ensures.elements ∙ ap (λ ys. after_remove ys c.args.first) c.loop-gone.invariant.0 ∙ remove_more xs c.args.first n (omega arith) (omega arith),
      (λ t. c.remove.ensures.totals (c.loop-gone.invariant.1 t)),
      c.remove.ensures.capacity ∙ c.loop-gone.invariant.2,
    )
