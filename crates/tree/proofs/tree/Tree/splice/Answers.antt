use Rattle.std.proofs.Common.{◌≡◌, ◌+◌, length, ap, ◌∙◌, arith}
use Rattle.std.specs.List.{between}
use Rattle.std.proofs.lemmas.List.Edits.{length-between}
use Rattle.tree.specs.Plain.{spliced}
use Rattle.tree.specs.Trees.{elements_of}
use Rattle.tree.proofs.Splices.{splice_splice, splice_on, halves, length-splice}
use Rattle.tree.proofs.tree.Tree.splice.Goals as goal

pub returns : goal.returns
returns g c =
    let m = c.min-common.ensures in
    let common = c.min-common.result in
    let first = c.args.first in
    let end = c.args.end in
    let next = first + common in
    let xs = elements_of c.args.self.now in
    let ys = c.args.elements.now in
    let front = between 0 common ys in
    let back = between common (length ys) ys in
    let n : length front ≡ common = let e = length-between ys 0 common (omega arith) in omega arith in
    let o = c.requires.ordered in
    let w = c.requires.within in
    let written = elements_of c.set_all.new.self in
    let is : written ≡ spliced xs first next front = c.set_all.ensures.elements ∙ ap (λ k. spliced xs first (first + k) front) n in
    let l = ap length is ∙ length-splice xs front first next (omega arith) (omega arith) in
    record {
      elements =
          c.insert_all.ensures.elements ∙ ap (λ l. spliced l next next back) c.remove_all.ensures.elements ∙ splice_splice written back next end (omega arith)
          ∙ ap (λ l. spliced l next end back) is ∙ splice_on xs front back first next end (omega arith) (omega arith) w ∙ ap (spliced xs first end) (halves ys common);
      totals = λ t. c.insert_all.ensures.totals (c.remove_all.ensures.totals (c.set_all.ensures.totals t));
      capacity = c.insert_all.ensures.capacity ∙ c.remove_all.ensures.capacity ∙ c.set_all.ensures.capacity;
    }
