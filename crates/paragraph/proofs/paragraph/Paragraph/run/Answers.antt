use Rattle.std.proofs.Common.{length, refl, ap, subst, arith, rules}
use Rattle.paragraph.specs.Paragraphs.{items_of, levels_in}
use Rattle.paragraph.specs.Runs.{RunOf}
use Rattle.paragraph.proofs.Around.{run_around}
use Rattle.paragraph.proofs.Levels.{length-levels}
use Rattle.paragraph.proofs.paragraph.Paragraph.run.Goals as goal

pub returns-then-place-count : goal.returns-then-place-count
returns-then-place-count c =
    let p = c.args.self.now in
    let n = length-levels p.direction (items_of p) in
    let all = c.count.ensures in
    (refl, omega arith)

pub returns : goal.returns
returns c =
    let p = c.levels-levels.result.paragraph.now in
    let place = c.args.place in
    let level = c.at-level.result in
    let n = length-levels p.direction (items_of p) in
    let all = c.count.ensures in
    let same = ap (λ q. length (items_of q)) c.levels-levels.ensures in
    let here = c.at-level.ensures in
    subst (λ q. RunOf (levels_in q) place (record { first = c.stretch-first.result.first; end = c.stretch-first.result.end; level = level })) c.levels-levels.ensures
    (run_around (levels_in p) _ place c.stretch-first.result c.stretch-first.ensures (omega arith) (λ h. search rules) level (λ n h. search rules) (λ n h. search rules))
