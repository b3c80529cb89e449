use Rattle.std.proofs.Common.{refl, ◌∙◌, arith}
use base.Stored.{Coded-set}
use Rattle.tree.specs.Trees.{shape, elements_of, capacity_of, TotalsRight}
use Rattle.tree.proofs.Facts.{count_is, sound_removed, elements_removed, totals_removed, found_removed}
use Rattle.tree.proofs.Plains.{remove_no_place, remove_found}
use Rattle.tree.proofs.tree.Tree.remove.Goals as goal

pub returns-then-place-count : goal.returns-then-place-count
unfolding shape elements_of
returns-then-place-count g c =
    let tree = c.args.self.now in
    let n = count_is {h = tree.heads} tree.sound in
    let l = c.len-count.ensures.count in
    let a = remove_no_place (elements_of tree) c.args.place (omega arith) in
    record { answer = a.0; elements = a.1; refused = refl; totals = λ h. h; capacity = refl }

pub invariant_of-self : goal.invariant_of-self
invariant_of-self g c =
    let tree = c.args.self.now in
    let k = g.T.Measure.ops in
    record {
      sound = sound_removed k {was = tree.heads} tree.sound c.remove_in-element.ensures;
    }

pub returns : goal.returns
unfolding shape elements_of capacity_of TotalsRight
returns g c =
    let tree = c.args.self.now in
    let k = g.T.Measure.ops in
    let t = c.remove_in-element.ensures in
    let l = c.len-count.ensures.count in
    let n = count_is {h = tree.heads} tree.sound in
    let a = remove_found (elements_of tree) c.args.place c.remove_in-element.result.1 (found_removed k {was = tree.heads} tree.sound (Coded-set g.row.E.coded) t) in
    record {
      answer = a.0;
      elements = elements_removed k {was = tree.heads} tree.sound (Coded-set g.row.E.coded) (omega arith) t ∙ a.1;
      refused = tt;
      totals = totals_removed k {was = tree.heads} tree.sound (Coded-set g.row.T.coded) t;
      capacity = let l = c.remove_in-element.auto.rows in omega arith;
    }

pub overflow_cast-place : goal.overflow_cast-place
unfolding capacity_of
overflow_cast-place g c = let r = c.len-count.ensures.room in omega arith

pub remove_in-element-requires-clause-within : goal.remove_in-element-requires-clause-within
unfolding shape elements_of
remove_in-element-requires-clause-within g c =
    let l = c.len-count.ensures.count in
    let n = count_is {h = c.args.self.now.heads} c.args.self.now.sound in
    omega arith
