use Rattle.std.proofs.Common.{◌+◌, ◌-◌, ◌/◌, ◌<◌, length, Some, refl, ap, subst, arith}
use Rattle.std.proofs.lemmas.Option.{slice_get_read}
use Rattle.tree.specs.Shapes.{leaf}
use Rattle.tree.specs.Surgery.{joined, Becomes}
use Rattle.tree.proofs.Building.{built_none, built_split, built_node}
use Rattle.tree.proofs.build.+build_below.Goals as goal

pub returns-then-first-end : goal.returns-then-first-end
returns-then-first-end g t c = (leaf, built_none g.T.Measure.ops c.args.elements.now c.args.rows.now c.args.first c.args.end c.if-first-end.true)

pub write_node-requires : goal.write_node-requires
write_node-requires g t c =
    let l = c.build_below-left.ensures in
    let r = c.build_below-right.ensures in
    let ordered = c.requires.ordered in
    let space = c.requires.space in
    let p = c.build_below-left.auto.rows in
    let q = c.build_below-right.auto.rows in
    ∣ (l.0, r.0, built_split g.T.Measure.ops c.args.elements.now l.0 r.0 l.1 r.1 refl (omega arith) (omega arith) (omega arith) c.requires.room) ∣₁

pub returns : goal.returns
returns g t c =
    let k = g.T.Measure.ops in
    let xs = c.args.elements.now in
    let l = c.build_below-left.ensures in
    let r = c.build_below-right.ensures in
    let ordered = c.requires.ordered in
    let space = c.requires.space in
    let p = c.build_below-left.auto.rows in
    let q = c.build_below-right.auto.rows in
    let x = c.index-elements-middle.result in
    let m = c.args.first + (c.args.end - c.args.first) / 2 in
    let within = c.requires.within in
    let inside : m < length xs = omega arith in
    let here_is = slice_get_read _ _ _ _ refl inside c.index-elements-middle.is in
    let here = c.write_node.ensures l.0 r.0 (built_split k xs l.0 r.0 l.1 r.1 refl (omega arith) (omega arith) (omega arith) c.requires.room) in
    (joined k l.0 m x r.0, built_node k xs l.0 r.0 l.1 r.1 refl (omega arith) (omega arith) x here_is c.requires.within refl here)
