use Rattle.std.proofs.Common.{refl, ◌∙◌, arith}
use base.Stored.{Coded-set}
use Rattle.tree.specs.Trees.{shape, elements_of, capacity_of, TotalsRight}
use Rattle.tree.proofs.Facts.{count_is, sound_inserted, elements_inserted, totals_inserted}
use Rattle.tree.proofs.Plains.{insert_no_place, insert_full, insert_fits}
use Rattle.tree.proofs.tree.Tree.insert.Goals as goal

pub returns-then-place-count : goal.returns-then-place-count
unfolding shape elements_of
returns-then-place-count g c =
    let tree = c.args.self.now in
    let n = count_is {h = tree.heads} tree.sound in
    let l = c.len-count.ensures.count in
    let a = insert_no_place (capacity_of tree) (elements_of tree) c.args.place c.args.element (omega arith) in
    record { answer = a.0; elements = a.1; refused = refl; totals = λ h. h; capacity = refl }

pub returns-then-count-capacity : goal.returns-then-count-capacity
unfolding shape elements_of
returns-then-count-capacity g c =
    let tree = c.args.self.now in
    let n = count_is {h = tree.heads} tree.sound in
    let l = c.len-count.ensures.count in
    let m = c.capacity.ensures in
    let a = insert_full (capacity_of tree) (elements_of tree) c.args.place c.args.element (omega arith) (omega arith) in
    record { answer = a.0; elements = a.1; refused = refl; totals = λ h. h; capacity = refl }

pub insert_in-self-requires : goal.insert_in-self-requires
unfolding shape elements_of capacity_of
insert_in-self-requires g c =
    let l = c.len-count.ensures.count in
    let n = count_is {h = c.args.self.now.heads} c.args.self.now.sound in
    let m = c.capacity.ensures in
    record { sound = c.args.self.now.sound; within = omega arith; room = omega arith; space = omega arith }

pub invariant_of-self : goal.invariant_of-self
invariant_of-self g c =
    let tree = c.args.self.now in
    let k = g.T.Measure.ops in
    record {
      sound = sound_inserted k {was = tree.heads} tree.sound c.insert_in-self.ensures;
    }

pub returns : goal.returns
unfolding shape elements_of capacity_of TotalsRight
returns g c =
    let tree = c.args.self.now in
    let k = g.T.Measure.ops in
    let n = count_is {h = tree.heads} tree.sound in
    let l = c.len-count.ensures.count in
    let m = c.capacity.ensures in
    let a = insert_fits (capacity_of tree) (elements_of tree) c.args.place c.args.element (omega arith) (omega arith) in
    let t = c.insert_in-self.ensures in
    record {
      answer = a.0;
      elements = elements_inserted k {was = tree.heads} tree.sound (Coded-set g.row.E.coded) (omega arith) t ∙ a.1;
      refused = tt;
      totals = totals_inserted k {was = tree.heads} tree.sound (Coded-set g.row.T.coded) t;
      capacity = let l = c.insert_in-self.auto.rows in omega arith;
    }

pub overflow_cast-place : goal.overflow_cast-place
unfolding capacity_of
overflow_cast-place g c = let r = c.len-count.ensures.room in omega arith
