use Rattle.std.proofs.Common.{ℕ, ◌<◌, [], ◌∷◌, ◌++◌, length, sym, ap, ◌∙◌, arith}
use Rattle.std.proofs.lemmas.List.{take_more_set}
use Rattle.rules.proofs.ByStretches.{places_more}
use Rattle.bidi.proofs.order.count_up.Goals as goal

pub loop-place-preserved : goal.loop-place-preserved
loop-place-preserved c =
    let place : ℕ = c.loop-place.place in
    let lt : place < length c.loop-place.list = omega arith in
    take_more_set c.loop-place.list place place lt ∙ ap (λ l. l ++ (place ∷ [])) c.loop-place.invariant ∙ sym (places_more place)
