use Rattle.std.proofs.Common.{◌≡◌, Ok, sym, ap, ◌∙◌}
use Rattle.std.specs.List.{between}
use Rattle.tree.specs.Measures.{total_of}
use Rattle.tree.specs.Plain.{numbered}
use Rattle.paragraph.specs.Paragraphs.{items_of}
use Rattle.paragraph.specs.Totals.{total_ops}
use Rattle.paragraph.proofs.Stored.{stored_right, total_there}
use Rattle.paragraph.proofs.paragraph.Paragraph.total.Goals as goal

pub returns : goal.returns
returns c =
    let p = c.args.self.now in
    let xs = between c.args.first c.args.end (items_of p) in
    let told : Ok c.unwrap.result ≡ Ok (total_of total_ops xs) =
    ap numbered (sym c.unwrap.ensures) ∙ c.total.ensures.answer (stored_right p) ∙ total_there total_ops (items_of p) c.args.first c.args.end c.requires.ordered c.requires.within in
    cc
