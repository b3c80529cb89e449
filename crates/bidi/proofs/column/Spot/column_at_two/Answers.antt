use Rattle.std.proofs.Common.{ℕ, arith}
use Rattle.rules.proofs.ByStretches.{columns_by_stretches}
use Rattle.bidi.specs.Items.{widths}
use Rattle.bidi.proofs.Walks.{part_width, front_width, ends_within}
use Rattle.bidi.proofs.column.Spot.column_at_two.Goals as goal

pub returns : goal.returns
returns c =
    let levels = c.args.self.now.levels.now in
    let items = c.args.self.now.items.now in
    let p : ℕ = c.args.self.now.place in
    let one = c.stretch-one in
    let two = c.stretch-two in
    let a : ℕ = one.result.start in
    let b : ℕ = one.result.end in
    let e : ℕ = two.result.start in
    let f : ℕ = two.result.end in
    let sum = (columns_by_stretches levels (widths items) p (omega arith)).2 a b e f c.requires one.ensures two.ensures in
    let before = front_width items a (omega (arith, one.ensures.from)) in
    let behind = part_width items f b (ends_within levels 1 2 p a b e f (omega arith) one.ensures two.ensures) (omega (arith, one.ensures.ends)) in
    let in_front = part_width items e p two.ensures.from (omega arith) in
    omega (arith, sum, before, behind, in_front)
