use Rattle.std.proofs.Common.{length, take, Ok, sym, ap, ◌∙◌, arith}
use mathlib.Core.Logic.{∥∥₁_map}
use base.Stored.{Coded-set}
use Rattle.std.proofs.lemmas.Option.{slice_get_past}
use Rattle.std.proofs.lemmas.Bool.{lt-ltb, le-ltb}
use Rattle.tree.specs.Measures.{total_of}
use Rattle.tree.specs.Plain.{found, with_sides}
use Rattle.tree.specs.Shapes.{Sound}
use Rattle.tree.specs.Sides.{Around}
use Rattle.tree.specs.Trees.{shape, capacity_of, rows_of, elements_of, TotalsRight}
use Rattle.tree.proofs.Facts.{count_is, found_is, before_is, behind_is}
use Rattle.tree.proofs.tree.Tree.around.Goals as goal

pub returns-then-place-len : goal.returns-then-place-len
unfolding shape elements_of
returns-then-place-len g c =
    let tree = c.args.self.now in
    let p = c.args.place in
    let n = count_is {h = tree.heads} tree.sound in
    let l = c.len.ensures.count in
    record {
      answer = λ _. sym (ap (λ o. with_sides g.T.Measure.ops (elements_of tree) p (found o)) (slice_get_past (elements_of tree) p (omega arith)));
      refusal = sym (le-ltb p (length (elements_of tree)) (omega arith));
    }

pub around_below-requires : goal.around_below-requires
unfolding shape elements_of
around_below-requires g c =
    let l = c.len.ensures.count in
    let m = count_is {h = c.args.self.now.heads} c.args.self.now.sound in
    ∥∥₁_map c.args.self.now.sound (λ w. let n = w.2.counted in (w.0, w.2.under, omega arith))

pub returns : goal.returns
unfolding shape elements_of TotalsRight
returns g c =
    let tree = c.args.self.now in
    let k = g.T.Measure.ops in
    let p = c.args.place in
    let told = c.around_below.result in
    let xs = elements_of tree in
    let n = count_is {h = tree.heads} tree.sound in
    let l = c.len.ensures.count in
    let all : (w : Sound (rows_of tree) tree.heads.root tree.heads.free tree.heads.used tree.heads.count) → Around k w.0 p k.unit k.unit told =
    λ w.
    let m = w.2.counted in
    c.around_below.ensures w.0 w.2.under (omega arith) in
    let here = found_is {h = tree.heads} (Coded-set g.row.E.coded) tree.sound p told.1 (λ w. (all w).here) in
    record {
      answer = λ t.
          ap (λ m. Ok (m, told.1, told.2)) (before_is g.T.Measure.laws {h = tree.heads} tree.sound (Coded-set g.row.T.coded) p told all t)
          ∙ ap (λ m. Ok (total_of k (take p xs), told.1, m)) (behind_is g.T.Measure.laws {h = tree.heads} tree.sound (Coded-set g.row.T.coded) p told all t)
          ∙ sym (ap (λ o. with_sides k xs p (found o)) here);
      refusal = sym (lt-ltb p (length xs) (omega arith));
    }

pub overflow_cast-place : goal.overflow_cast-place
unfolding capacity_of
overflow_cast-place g c = let r = c.len.ensures.room in omega arith
