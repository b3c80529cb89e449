use Rattle.std.proofs.Common.{◌∙◌, arith}
use Rattle.tree.specs.Trees.{shape, elements_of, capacity_of}
use Rattle.tree.proofs.Facts.{count_is, count_fits}
use Rattle.tree.proofs.tree.Tree.len.Goals as goal

pub returns : goal.returns
unfolding shape elements_of capacity_of
returns g c =
    let tree = c.args.self.now in
    let same = c.from.ensures in
    let fits = count_fits {h = tree.heads} tree.sound in
    record { count = same ∙ count_is {h = tree.heads} tree.sound; room = omega arith }
