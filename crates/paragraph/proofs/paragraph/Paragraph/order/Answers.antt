use Rattle.std.proofs.Common.{◌≡◌, leb, length, take, ap, ◌∙◌, arith}
use Rattle.std.proofs.lemmas.List.{take_at}
use Rattle.std.proofs.lemmas.Bool.{le-leb, cond-true}
use Rattle.bidi.specs.Ordering.{order_list}
use Rattle.paragraph.specs.Ordering.{overwritten}
use Rattle.paragraph.specs.Paragraphs.{items_of, levels_in}
use Rattle.paragraph.proofs.Levels.{length-levels}
use Rattle.paragraph.proofs.Orders.{order_short, order_no_scratch, order_done}
use Rattle.paragraph.proofs.paragraph.Paragraph.order.Goals as goal

pub returns-then-count-list : goal.returns-then-count-list
returns-then-count-list c =
    let p = c.args.self.now in
    let n = length-levels p.direction (items_of p) in
    let all = c.count-count.ensures in
    let a = order_short (levels_in p) c.args.list.now c.args.scratch.now (omega arith) in
    record { answer = a.0; list = a.1; scratch = a.2 }

pub returns-then-count-scratch : goal.returns-then-count-scratch
returns-then-count-scratch c =
    let p = c.args.self.now in
    let n = length-levels p.direction (items_of p) in
    let all = c.count-count.ensures in
    let a = order_no_scratch (levels_in p) c.args.list.now c.args.scratch.now (omega arith) (omega arith) in
    record { answer = a.0; list = a.1; scratch = a.2 }

pub returns : goal.returns
returns c =
    let p = c.args.self.now in
    let n = length-levels p.direction (items_of p) in
    let all = c.count-count.ensures in
    let a = order_done (levels_in p) c.args.list.now c.args.scratch.now (omega arith) (omega arith) in
    let ls = levels_in p in
    let list = c.args.list.now in
    let levelled = c.write_levels.ensures ∙ ap (λ q. overwritten (length (levels_in q)) (levels_in q) c.args.scratch.now) c.levels.ensures in
    let written : take c.count-count.result c.write_levels.new.scratch ≡ ls =
    ap (take c.count-count.result) levelled ∙ take_at ls _ c.count-count.result (omega arith) in
    record {
      answer = a.0;
      list = c.order.ensures.list ∙ ap (λ x. order_list x list) written ∙ cond-true (leb (length ls) (length list)) _ _ (le-leb (length ls) (length list) (omega arith)) ∙ a.1;
      scratch = levelled ∙ a.2;
    }
