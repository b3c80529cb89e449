use Rattle.std.proofs.Common.{leb, Ok, Err, sym, ap, ◌∙◌, arith}
use mathlib.Core.Logic.{∥∥₁_map}
use Rattle.std.proofs.lemmas.Bool.{le-leb, lt-leb, cond-true, cond-false}
use Rattle.tree.specs.Measures.{total_of}
use Rattle.tree.specs.Plain.{first_over}
use Rattle.tree.specs.Trees.{shape, elements_of, TotalsRight}
use Rattle.tree.proofs.Facts.{weight_in, place_in}
use Rattle.tree.proofs.tree.Tree.seek.Goals as goal

pub part_of-whole-requires : goal.part_of-whole-requires
part_of-whole-requires g c = ∥∥₁_map c.args.self.now.sound (λ w. (w.0, w.2.under, tt))

pub returns-then-weight : goal.returns-then-weight
unfolding shape elements_of TotalsRight
returns-then-weight g c = λ t.
    let tree = c.args.self.now in
    let k = g.T.Measure.ops in
    let e = weight_in g.T.Measure.laws {h = tree.heads} tree.sound t c.part_of-whole.result (λ w. c.part_of-whole.ensures w.0 w.2.under) in
    let b = c.weight.ensures in
    sym (cond-true (leb (k.weight (total_of k (elements_of tree))) c.args.weight) (Err 4) _ (le-leb (k.weight (total_of k (elements_of tree))) c.args.weight (omega arith)))

pub seek_below-requires : goal.seek_below-requires
seek_below-requires g c = ∥∥₁_map c.args.self.now.sound (λ w. (w.0, w.2.under, tt))

pub returns : goal.returns
unfolding shape elements_of TotalsRight
returns g c = λ t.
    let tree = c.args.self.now in
    let k = g.T.Measure.ops in
    let w = c.args.weight in
    let e = weight_in g.T.Measure.laws {h = tree.heads} tree.sound t c.part_of-whole.result (λ w. c.part_of-whole.ensures w.0 w.2.under) in
    let b = c.weight.ensures in
    ap Ok (c.from.ensures ∙ place_in g.T.Measure.laws {h = tree.heads} tree.sound t w c.seek_below.result (λ x u. c.seek_below.ensures.place x.0 x.2.under u))
    ∙ sym (cond-false (leb (k.weight (total_of k (elements_of tree))) w) (Err 4) (Ok (first_over k w k.unit (elements_of tree))) (lt-leb (k.weight (total_of k (elements_of tree))) w (omega arith)))
