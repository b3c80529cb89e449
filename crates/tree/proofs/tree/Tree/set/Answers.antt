use Rattle.std.proofs.Common.{arith}
use base.Stored.{Coded-set}
use Rattle.tree.specs.Trees.{shape, elements_of, capacity_of, TotalsRight}
use Rattle.tree.proofs.Facts.{count_is, count_fits, sound_set, elements_set, totals_set}
use Rattle.tree.proofs.tree.Tree.set.Goals as goal

pub overflow_cast-place : goal.overflow_cast-place
unfolding shape elements_of
overflow_cast-place g c =
    let tree = c.args.self.now in
    let n = count_is {h = tree.heads} tree.sound in
    let m = count_fits {h = tree.heads} tree.sound in
    let h = c.requires in
    omega arith

pub set_in-requires : goal.set_in-requires
unfolding shape elements_of
set_in-requires g c =
    let tree = c.args.self.now in
    let n = count_is {h = tree.heads} tree.sound in
    let h = c.requires in
    record { sound = tree.sound; within = omega arith }

pub invariant_of-self : goal.invariant_of-self
invariant_of-self g c =
    let tree = c.args.self.now in
    let k = g.T.Measure.ops in
    record {
      sound = sound_set k {h = tree.heads} tree.sound c.set_in.ensures;
    }

pub returns : goal.returns
unfolding shape elements_of capacity_of TotalsRight
returns g c =
    let tree = c.args.self.now in
    let k = g.T.Measure.ops in
    let t = c.set_in.ensures in
    record {
      elements = elements_set k {h = tree.heads} tree.sound (Coded-set g.row.E.coded) t;
      totals = totals_set k {h = tree.heads} tree.sound (Coded-set g.row.T.coded) t;
      capacity = let l = c.set_in.auto.rows in omega arith;
    }
