use Rattle.std.proofs.Common.{Ok, sym, ap, ◌∙◌, subst, arith}
use mathlib.Core.Logic.{∥∥₁_elim, ∥∥₁_map}
use base.Stored.{Coded-set}
use Rattle.std.specs.List.{between}
use Rattle.std.proofs.lemmas.Bool.{cond-true, cond-false}
use Rattle.tree.specs.Measures.{total_of}
use Rattle.tree.specs.Plain.{fits}
use Rattle.tree.specs.Shapes.{elements, Totalled}
use Rattle.tree.specs.Trees.{shape, capacity_of, elements_of, TotalsRight}
use Rattle.tree.proofs.Facts.{count_is}
use Rattle.tree.proofs.Plains.{fits_not_within, fits_both}
use Rattle.tree.proofs.Wholes.{whole_shape}
use Rattle.tree.proofs.tree.Tree.total.Goals as goal

pub returns-then-end-len : goal.returns-then-end-len
unfolding shape elements_of
returns-then-end-len g c =
    let tree = c.args.self.now in
    let n = count_is {h = tree.heads} tree.sound in
    let l = c.len.ensures.count in
    let f = fits_not_within (elements_of tree) c.args.first c.args.end (omega arith) in
    record { answer = λ _. sym (cond-false (fits (elements_of tree) c.args.first c.args.end) _ _ f); refusal = sym f }

pub total_below-requires : goal.total_below-requires
unfolding shape elements_of
total_below-requires g c =
    let l = c.len.ensures.count in
    let m = count_is {h = c.args.self.now.heads} c.args.self.now.sound in
    ∥∥₁_map c.args.self.now.sound (λ w. let n = w.2.counted in (w.0, w.2.under, (omega arith, omega arith)))

pub returns : goal.returns
unfolding shape elements_of TotalsRight
returns g c =
    let tree = c.args.self.now in
    let k = g.T.Measure.ops in
    let first = c.args.first in
    let end = c.args.end in
    let n = count_is {h = tree.heads} tree.sound in
    let l = c.len.ensures.count in
    let f = fits_both (elements_of tree) first end (omega arith) (omega arith) in
    record {
      answer = λ t.
          ap Ok (∥∥₁_elim tree.sound (Coded-set g.row.T.coded _ _) (λ w.
          let m = w.2.counted in
          let s = whole_shape w.0 w.2 in
          c.total_below.ensures w.0 w.2.under (subst (Totalled k) s t) (omega arith) (omega arith) ∙ ap (λ x. total_of k (between first end (elements x))) (sym s)))
          ∙ sym (cond-true (fits (elements_of tree) first end) (Ok (total_of k (between first end (elements_of tree)))) _ f);
      refusal = sym f;
    }

pub overflow_cast-first : goal.overflow_cast-first
unfolding capacity_of
overflow_cast-first g c = let r = c.len.ensures.room in omega arith

pub overflow_cast-end : goal.overflow_cast-end
unfolding capacity_of
overflow_cast-end g c = let r = c.len.ensures.room in omega arith
