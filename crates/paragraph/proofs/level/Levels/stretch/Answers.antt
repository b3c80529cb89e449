use Rattle.std.proofs.Common.{⊎_elim, arith}
use Rattle.std.proofs.lemmas.Bool.{cases_lt}
use Rattle.paragraph.specs.Paragraphs.{items_of}
use Rattle.paragraph.proofs.Levels.{length-levels}
use Rattle.paragraph.proofs.level.Levels.stretch.Goals as goal

pub returns : goal.returns
returns g c =
    let p = c.args.self.now.paragraph.now in
    let n = length-levels p.direction (items_of p) in
    let start = c.stretch_start.ensures in
    let stop = c.stretch_end.ensures in
    record {
      from = start.within;
      to = stop.from;
      ends = let h = stop.within in omega arith;
      passed = λ i u v. ⊎_elim (λ h. start.passed i u h) (λ h. stop.passed i h v) (cases_lt i c.args.place);
      left = start.left;
      right = λ h. stop.right (omega arith);
    }
