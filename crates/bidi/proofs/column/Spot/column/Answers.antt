use Rattle.std.proofs.Common.{◌≡◌, ℕ, true, leb, get_or, Ok, sym, ap, ◌∙◌, arith}
use Rattle.std.proofs.lemmas.Bool.{le-leb, cond-true}
use Rattle.rules.proofs.ByStretches.{columns_by_stretches}
use Rattle.bidi.specs.Items.{widths}
use Rattle.bidi.specs.Sums.{held}
use Rattle.bidi.proofs.Walks.{front_width}
use Rattle.bidi.proofs.column.Spot.column.Goals as goal

pub returns-in-0 : goal.returns-in-0
returns-in-0 c =
    let levels = c.args.self.now.levels.now in
    let items = c.args.self.now.items.now in
    let p : ℕ = c.args.self.now.place in
    let here : get_or levels p 0 ≡ 0 = omega arith in
    let low : leb (get_or levels p 0) 2 ≡ true = le-leb (get_or levels p 0) 2 (omega arith) in
    let before = front_width items p (omega arith) in
    ap Ok (c.width_of.ensures ∙ ap held (before ∙ sym ((columns_by_stretches levels (widths items) p (omega arith)).0 here))) ∙ sym (cond-true _ _ _ low)
