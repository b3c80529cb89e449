use Rattle.std.proofs.Common.{arith}
use Rattle.rules.proofs.ByStretches.{columns_by_stretches}
use Rattle.bidi.specs.Items.{widths}
use Rattle.paragraph.specs.Paragraphs.{items_of, levels_in}
use Rattle.paragraph.proofs.Levels.{length-levels}
use Rattle.paragraph.proofs.column.Spot.column_at_two.Goals as goal

pub returns : goal.returns
returns c =
    let p = c.args.self.now.levels.paragraph.now in
    let place = c.args.self.now.place in
    let n = length-levels p.direction (items_of p) in
    let here = c.requires in
    let inside = c.args.self.now.there in
    let outer = c.stretch-outer in
    let inner = c.stretch-inner in
    let sum = (columns_by_stretches (levels_in p) (widths (items_of p)) place (omega arith)).2 outer.result.first outer.result.end inner.result.first inner.result.end here outer.ensures.stretch inner.ensures.stretch in
    let u = c.width_of.ensures.sum in
    let v = c.width_of-2.ensures.sum in
    let w = c.width_of-3.ensures.sum in
    omega arith
