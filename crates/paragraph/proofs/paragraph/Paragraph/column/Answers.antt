use Rattle.std.proofs.Common.{ltb, length, Ok, sym, ap, ◌∙◌, arith}
use Rattle.std.proofs.lemmas.Result.{err_from_is_err_and}
use Rattle.std.proofs.lemmas.Bool.{le-ltb, cond-false}
use Rattle.rules.specs.Order.{at, column_of}
use Rattle.rules.proofs.ByStretches.{columns_by_stretches}
use Rattle.bidi.specs.Items.{widths}
use Rattle.paragraph.specs.Paragraphs.{items_of, levels_in}
use Rattle.paragraph.proofs.Around.{place_there, column_told}
use Rattle.paragraph.proofs.Levels.{length-levels, level_low}
use Rattle.paragraph.proofs.paragraph.Paragraph.column.Goals as goal

pub returns-in_err-item : goal.returns-in_err-item
returns-in_err-item c =
    let p = c.args.self.now in
    let place = c.args.place in
    let n = length-levels p.direction (items_of p) in
    let read = c.in_err-item.ensures.answer in
    let past = read.1 in
    let r = err_from_is_err_and c.from_residual.result c.from_residual.ensures.1 in
    rw (r.1, r.2, read.0) (sym (cond-false (ltb place (length (levels_in p))) (Ok (column_of (levels_in p) (widths (items_of p)) place, at (widths (items_of p)) place)) _ (le-ltb place (length (levels_in p)) (omega arith))))

pub invariant_of-spot : goal.invariant_of-spot
invariant_of-spot c =
    let h = place_there c.args.self.now c.args.place c.in_ok-item.item _ c.in_ok-item.ensures.answer in
    let e = ap (λ q. length (items_of q)) c.levels.ensures in
    record { there = omega arith }

pub column_at_two-column-requires : goal.column_at_two-column-requires
column_at_two-column-requires c =
    let q = c.levels.result.paragraph.now in
    let e = c.at.ensures in
    let l = level_low q.direction (items_of q) c.args.place in
    omega arith

pub returns-in-0 : goal.returns-in-0
returns-in-0 c =
    let p = c.args.self.now in
    let place = c.args.place in
    let h = place_there p place c.in_ok-item.item _ c.in_ok-item.ensures.answer in
    let n = length-levels p.direction (items_of p) in
    let e = c.at.ensures ∙ ap (λ q. at (levels_in q) place) c.levels.ensures in
    let f = c.in-0.is in
    column_told p place c.in_ok-item.item _ c.in_ok-item.ensures.answer c.width_of-column.result (c.width_of-column.ensures.sum ∙ sym ((columns_by_stretches (levels_in p) (widths (items_of p)) place (omega arith)).0 (omega arith)))

pub returns-in-1 : goal.returns-in-1
returns-in-1 c =
    column_told c.args.self.now c.args.place c.in_ok-item.item _ c.in_ok-item.ensures.answer c.column_at_one-column.result
    (c.column_at_one-column.ensures ∙ ap (λ q. column_of (levels_in q) (widths (items_of q)) c.args.place) c.levels.ensures)

pub returns-in_default : goal.returns-in_default
returns-in_default c =
    column_told c.args.self.now c.args.place c.in_ok-item.item _ c.in_ok-item.ensures.answer c.column_at_two-column.result
    (c.column_at_two-column.ensures ∙ ap (λ q. column_of (levels_in q) (widths (items_of q)) c.args.place) c.levels.ensures)
