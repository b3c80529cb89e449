use Rattle.std.proofs.Common.{◌+◌, refl, ap, ◌∙◌, arith}
use Rattle.tree.specs.Plain.{after_insert}
use Rattle.tree.specs.Trees.{elements_of, capacity_of}
use Rattle.tree.proofs.Splices.{insert_more}
use Rattle.tree.proofs.tree.Tree.insert_all.Goals as goal

pub overflow_add-place : goal.overflow_add-place
unfolding capacity_of
overflow_add-place g c = let p = c.requires.within in let q = c.requires.room in omega arith

pub loop-i-preserved : goal.loop-i-preserved
loop-i-preserved g c =
    let xs = elements_of c.args.self.now in
    let ys = c.args.elements.now in
    let room = capacity_of c.args.self.now in
    let i = c.loop-i.i in
    let p = c.requires.within in
    let q = c.requires.room in
    let y = c.index-elements-i.result in (
      c.insert.ensures.elements
          ∙ ap (λ r. after_insert r (elements_of c.loop-i.self) (c.args.place + i) y) c.loop-i.invariant.2
          ∙ ap (λ l. after_insert room l (c.args.place + i) y) c.loop-i.invariant.0
          ∙ insert_more room xs ys c.args.place i p (omega arith) q y (c.args.place + i) y c.index-elements-i.is refl,
      (λ t. c.insert.ensures.totals (c.loop-i.invariant.1 t)),
      c.insert.ensures.capacity ∙ c.loop-i.invariant.2,
    )
