use Rattle.std.proofs.Common.{◌+◌, take, drop, sym, ap, ◌∙◌}
use Rattle.bidi.specs.Sums.{column_ops, context_ops}
use Rattle.tree.specs.Plain.{numbered}
use Rattle.paragraph.specs.Paragraphs.{items_of}
use Rattle.paragraph.specs.Steps.{none, left, right}
use Rattle.paragraph.specs.Totals.{total_ops}
use Rattle.paragraph.proofs.Stored.{stored_right, second_total}
use Rattle.paragraph.proofs.Stretched.{map-take, map-drop, map_at, around_is}
use Rattle.paragraph.proofs.paragraph.Paragraph.surroundings.Goals as goal

pub returns : goal.returns
returns c =
    let p = c.args.self.now in
    let items = items_of p in
    let place = c.args.place in
    let told = c.unwrap.result in
    let there = around_is total_ops items place told (ap numbered (sym c.unwrap.ensures) ∙ c.around.ensures.answer (stored_right p)) in
    let before = ap (λ t. t.second) there.1 ∙ second_total column_ops context_ops (take place items) in
    let behind = ap (λ t. t.second) there.2 ∙ second_total column_ops context_ops (drop (place + 1) items) in
    let l = c.after.ensures.items (take place items) before ∙ (λ t. left (c.start.ensures t) (map-take (λ i. i.class) place items t)) in
    let r = c.before-2.ensures.items (drop (place + 1) items) behind ∙ (λ t. right (c.end.ensures t) (map-drop (λ i. i.class) (place + 1) items t)) in
    let k = map_at (λ i. i.class) items place none told.1 there.0 in
    λ t. record { left = l t; class = k t; right = r t }
