use Rattle.std.proofs.Common.{◌≡◌, ℕ, suc, [], ◌∷◌, ◌++◌, List, map, length, get_or, Some, vec_items, vec_len, sym, ap, ◌∙◌, ap₂, arith, rules}
use Rattle.std.proofs.lemmas.List.{map-append}
use Rattle.std.specs.Slice.Iter.{chunks_rest}
use Rattle.listing.specs.Lines.{reading, onto, item_read, items_read}
use Rattle.listing.proofs.Reading.{good}
use Rattle.listing.proofs.parse.items_in.Goals as goal

pub loop-pair-preserved : goal.loop-pair-preserved
loop-pair-preserved c =
    let v = c.loop-pair.items in
    let w = c.push.new.self in
    let pair : List ℕ = c.in-Some.pair.now in
    let item = c.in_ok-item.item in
    let rest = chunks_rest c.next.new.self in
    let steps = c.in-Some.ensures.steps in
    let long : length pair ≡ 2 = omega arith in
    let read : item_read (get_or pair 0 0) (get_or pair 1 0) ≡ Some (reading item) = search rules in
    let now-items : vec_items w ≡ vec_items v ++ (item ∷ []) = c.in_ok-push.ensures.items in
    let now-len : vec_len w ≡ suc (vec_len v) = c.in_ok-push.ensures.len ∙ omega arith in (
      steps.0 ∙ c.loop-pair.invariant.0,
      c.loop-pair.invariant.1
          ∙ good (chunks_rest c.loop-pair.pair-iterator) pair rest (vec_len v) (map reading (vec_items v)) (reading item) steps.1.0 long read
          ∙ ap₂ (λ xs n. onto xs (items_read n rest)) (sym (map-append reading (vec_items v) (item ∷ [])) ∙ ap (map reading) (sym now-items)) (sym now-len),
    )
