use borrow.Author.Tests.{tests}
use Rattle.std.proofs.Common.{rules, arith}
use Rattle.std.proofs.lemmas.Iterator.{first_from_Range}
use Rattle.paragraph.specs.Edges.{IsChanged}
use Rattle.paragraph.proofs.Decides.{changed_there}
use Rattle.paragraph.proofs.SpanLaws.{first_found}
use Rattle.paragraph.proofs.change.Change.first_changed.Goals as goal

pub returns : goal.returns
returns c =
    let e = c.args.self.now in
    let P = IsChanged e in
    first_found P c.count.result c.find.result (λ k p. let a = changed_there e k p in let all = c.count.ensures in omega arith)
    (first_from_Range _ _ _ c.find.result P (λ k. P k → ⊥) c.find.ensures.ran (λ x q k. search (rules, tests)) (λ x q k. search (rules, tests)))
