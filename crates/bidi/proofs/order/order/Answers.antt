use Rattle.std.proofs.Common.{◌≡◌, true, leb, ◌++◌, length, take, drop, sym, ap, ◌∙◌, arith}
use Rattle.std.proofs.lemmas.Bool.{le-leb, cond-true}
use Rattle.std.proofs.lemmas.List.{length-take}
use Rattle.rules.specs.Order.{places, reordered, highest, at, L2}
use Rattle.bidi.proofs.order.order.Goals as goal

pub returns-clause-list : goal.returns-clause-list
unfolding L2
returns-clause-list c =
    let levels = c.args.levels.now in
    let list = c.args.list.now in
    let fits : leb (length levels) (length list) ≡ true = le-leb (length levels) (length list) (omega arith) in
    let whole : length (take (length levels) list) ≡ length levels = length-take (length levels) list ∙ omega arith in
    ap (λ l. l ++ drop (length levels) list) (c.turn_all.ensures ∙ ap (reordered (at levels) (highest levels)) (c.count_up.ensures ∙ ap (places 0) whole))
    ∙ sym (cond-true _ _ _ fits)
