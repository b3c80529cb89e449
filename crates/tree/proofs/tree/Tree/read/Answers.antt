use Rattle.std.proofs.Common.{◌≡◌, ◌≤◌, length, sym, ap, subst, arith}
use mathlib.Core.Logic.{∥∥₁_map}
use base.Stored.{Coded-set}
use Rattle.std.proofs.lemmas.Option.{slice_get_past}
use Rattle.tree.specs.Plain.{found, with_depth}
use Rattle.tree.specs.Shapes.{depth}
use Rattle.tree.specs.Trees.{shape, capacity_of, elements_of, depth_in, least}
use Rattle.tree.proofs.Facts.{count_is, found_is, number_is, deep_enough, sparse_enough}
use Rattle.tree.proofs.Plains.{read_found}
use Rattle.tree.proofs.tree.Tree.read.Goals as goal

pub returns-then-place-len : goal.returns-then-place-len
unfolding shape elements_of depth_in
returns-then-place-len g c =
    let tree = c.args.self.now in
    let n = count_is {h = tree.heads} tree.sound in
    record {
      answer = sym (ap (λ o. with_depth (depth_in tree c.args.place) (found o)) (slice_get_past (elements_of tree) c.args.place (omega arith)));
      deep = tt;
      sparse = sparse_enough {h = tree.heads} tree.sound;
    }

pub read_below-requires : goal.read_below-requires
unfolding shape elements_of
read_below-requires g c =
    let l = c.len.ensures.count in
    let m = count_is {h = c.args.self.now.heads} c.args.self.now.sound in
    ∥∥₁_map c.args.self.now.sound (λ w. let n = w.2.counted in (w.0, w.2.under, omega arith))

pub returns : goal.returns
unfolding shape elements_of depth_in
returns g c =
    let tree = c.args.self.now in
    let p = c.args.place in
    let told = c.read_below.result in
    let l = c.len.ensures.count in
    let m = count_is {h = tree.heads} tree.sound in
    let element = found_is {h = tree.heads} (Coded-set g.row.E.coded) tree.sound p told.0 (λ w. let n = w.2.counted in (c.read_below.ensures w.0 w.2.under (omega arith)).0) in
    let deep : depth_in tree p ≡ told.1 = number_is {h = tree.heads} tree.sound (λ s. depth s p) told.1 (λ w. let n = w.2.counted in sym (c.read_below.ensures w.0 w.2.under (omega arith)).1) in
    record {
      answer = read_found (elements_of tree) p told.0 (depth_in tree p) told.1 element deep;
      deep = subst (λ d. least d ≤ length (elements_of tree)) deep (deep_enough {h = tree.heads} tree.sound p);
      sparse = sparse_enough {h = tree.heads} tree.sound;
    }

pub overflow_cast-place : goal.overflow_cast-place
unfolding capacity_of
overflow_cast-place g c = let r = c.len.ensures.room in omega arith
