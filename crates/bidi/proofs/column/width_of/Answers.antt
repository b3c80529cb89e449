use Rattle.std.proofs.Common.{◌≡◌, ◌+◌, rules, ◌∙◌}
use Rattle.std.specs.List.{fold}
use Rattle.std.proofs.iter.runs.Made.{chains}
use Rattle.bidi.specs.Sums.{held}
use Rattle.bidi.specs.declared.item.Item.{Item}
use Rattle.bidi.proofs.Walks.{held_sum}
use Rattle.bidi.proofs.column.width_of.Goals as goal

pub returns : goal.returns
returns c =
    let mirrored : c.fold.result ≡ fold (λ a (i : Item). held (a + i.width)) 0 c.args.items.now = search (rules, chains) in
    mirrored ∙ held_sum c.args.items.now
