use Rattle.std.proofs.Common.{ℕ, ◌+◌, arith}
use Rattle.rules.proofs.ByStretches.{columns_by_stretches}
use Rattle.bidi.specs.Items.{widths}
use Rattle.bidi.proofs.Walks.{part_width, front_width}
use Rattle.bidi.proofs.column.Spot.column_at_one.Goals as goal

pub returns : goal.returns
returns c =
    let levels = c.args.self.now.levels.now in
    let items = c.args.self.now.items.now in
    let p : ℕ = c.args.self.now.place in
    let one = c.stretch-one in
    let start : ℕ = one.result.start in
    let end : ℕ = one.result.end in
    let sum = (columns_by_stretches levels (widths items) p (omega arith)).1 start end c.requires one.ensures in
    let before = front_width items start (omega (arith, one.ensures.from)) in
    let behind = part_width items (p + 1) end (omega (arith, one.ensures.to)) (omega (arith, one.ensures.ends)) in
    omega (arith, sum, before, behind)
