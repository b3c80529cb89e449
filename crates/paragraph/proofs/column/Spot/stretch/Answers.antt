use Rattle.std.proofs.Common.{arith, rules}
use Rattle.paragraph.specs.Paragraphs.{items_of, levels_in}
use Rattle.paragraph.proofs.Around.{stretch_around}
use Rattle.paragraph.proofs.Levels.{length-levels}
use Rattle.paragraph.proofs.column.Spot.stretch.Goals as goal

pub returns : goal.returns
returns c =
    let p = c.args.self.now.levels.paragraph.now in
    let n = length-levels p.direction (items_of p) in
    let around = c.stretch.ensures in
    let inside = c.args.self.now.there in
    record {
      within = let h = around.ends in omega arith;
      stretch = stretch_around (levels_in p) _ c.args.self.now.place c.stretch.result around (omega arith) (λ h. search rules) c.args.high (λ n h. search rules) (λ n h. search rules);
    }
