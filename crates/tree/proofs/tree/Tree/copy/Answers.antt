use Rattle.std.proofs.Common.{◌≡◌, ◌+◌, ◌-◌, ◌++◌, min, ltb, length, take, drop, Ok, Err, sym, ap, ap₂, ◌∙◌, arith}
use Rattle.std.specs.List.{between}
use mathlib.Core.List.{is_set}
use mathlib.Core.Logic.{∥∥₁_elim, ∥∥₁_map}
use base.Stored.{Coded-set}
use Rattle.std.proofs.lemmas.List.Edits.{length-between}
use Rattle.std.proofs.lemmas.Bool.{lt-ltb, le-ltb, cond-true, cond-false}
use Rattle.tree.specs.Shapes.{elements}
use Rattle.tree.specs.Trees.{shape, elements_of}
use Rattle.tree.proofs.Facts.{count_is}
use Rattle.tree.proofs.Pasting.{copy_none, copy_fits}
use Rattle.tree.proofs.Wholes.{whole_shape}
use Rattle.tree.proofs.tree.Tree.copy.Goals as goal

pub returns-then-first-count : goal.returns-then-first-count
unfolding shape elements_of
returns-then-first-count g c =
    let tree = c.args.self.now in
    let xs = elements_of tree in
    let n = count_is {h = tree.heads} tree.sound in
    let q = c.len-count.ensures.count in
    record {
      answer = sym (cond-true (ltb (length xs) c.args.first) _ _ (lt-ltb (length xs) c.args.first (omega arith)));
      out = copy_none xs c.args.first c.args.out.now (omega arith);
    }

pub copy_below-requires : goal.copy_below-requires
unfolding shape elements_of
copy_below-requires g c =
    let q = c.len-count.ensures.count in
    let k = count_is {h = c.args.self.now.heads} c.args.self.now.sound in
    let m = c.min-copied.ensures in
    let l = length-between c.args.out.now 0 c.min-copied.result (omega arith) in
    ∥∥₁_map c.args.self.now.sound (λ w. let n = w.2.counted in (w.0, w.2.under, omega arith))

pub returns : goal.returns
unfolding shape elements_of
returns g c =
    let tree = c.args.self.now in
    let xs = elements_of tree in
    let first = c.args.first in
    let m = c.min-copied.ensures in
    let copied = c.min-copied.result in
    let out = c.args.out.now in
    let l = length-between out 0 copied (omega arith) in
    let n = count_is {h = tree.heads} tree.sound in
    let q = c.len-count.ensures.count in
    let told : copied ≡ min (length out) (length xs - first) = omega arith in
    let many : first + length (between 0 copied out) - first ≡ copied = omega arith in
    let less : copied - 0 ≡ copied = omega arith in
    record {
      answer = ap Ok told ∙ sym (cond-false (ltb (length xs) first) (Err 1) _ (le-ltb (length xs) first (omega arith)));
      out =
          ap₂ ◌++◌
          (∥∥₁_elim tree.sound (is_set (Coded-set g.row.E.coded) _ _) (λ w.
          let k = w.2.counted in
          c.copy_below.ensures w.0 w.2.under (omega arith)
          ∙ ap (λ m. take m (drop first (elements w.0))) many
          ∙ ap (λ x. take copied (drop first (elements x))) (sym (whole_shape w.0 w.2))))
          (ap (λ m. drop m out) less)
          ∙ copy_fits xs first out copied told (omega arith);
    }
