use Rattle.std.proofs.Common.{◌+◌, set, refl, ap, ◌∙◌, arith}
use Rattle.tree.specs.Trees.{shape, elements_of}
use Rattle.tree.proofs.Facts.{count_is, count_fits}
use Rattle.tree.proofs.Setting.{set_more}
use Rattle.tree.proofs.tree.Tree.set_all.Goals as goal

pub overflow_add-place : goal.overflow_add-place
unfolding shape elements_of
overflow_add-place g c =
    let tree = c.args.self.now in
    let n = count_is {h = tree.heads} tree.sound in
    let m = count_fits {h = tree.heads} tree.sound in
    let h = c.requires in
    omega arith

pub loop-i-preserved : goal.loop-i-preserved
loop-i-preserved g c =
    let xs = elements_of c.args.self.now in
    let ys = c.args.elements.now in
    let i = c.loop-i.i in
    let y = c.index-elements-i.result in (
      c.set.ensures.elements ∙ ap (λ l. set l (c.args.place + i) y) c.loop-i.invariant.0 ∙ set_more xs ys c.args.place i y (c.args.place + i) y c.requires (omega arith) c.index-elements-i.is refl,
      (λ t. c.set.ensures.totals (c.loop-i.invariant.1 t)),
      c.set.ensures.capacity ∙ c.loop-i.invariant.2,
    )
