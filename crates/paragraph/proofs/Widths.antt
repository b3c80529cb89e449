-- The widths of a stretch add up, and are never held.
use Rattle.std.proofs.Common.{◌≡◌, ℕ, ◌*◌, ◌≤◌, List, [], ◌∷◌, length, sum, sym, refl, ap, ◌∙◌, arith}
use lib.ListN.{length-map}
use Rattle.std.specs.List.{between}
use Rattle.std.proofs.lemmas.List.Edits.{length-between}
use Rattle.std.proofs.lemmas.List.Sums.{sum_by-cons}
use Rattle.tree.specs.Measures.{total_of}
use Rattle.rules.specs.Stretches.{width_between}
use Rattle.rules.proofs.ByStretches.{widths_are_sums}
use Rattle.bidi.specs.Items.{widths}
use Rattle.bidi.specs.Sums.{column_ops}
use Rattle.bidi.specs.declared.item.Item.{Item}
use Rattle.paragraph.proofs.Stretched.{map-between}

narrow_sum : (items : List Item) → sum (widths items) ≤ 255 * length items
narrow_sum [] = omega arith
narrow_sum (x ∷ xs) = let n = x.narrow in let h = narrow_sum xs in let s = sum_by-cons (λ w. w) x.width (widths xs) in omega arith

total_width : (items : List Item) → length items ≤ 4096 → (total_of column_ops items).width ≡ sum (widths items)
total_width [] h = refl
total_width (x ∷ xs) h =
    let n = x.narrow in
    let i = total_width xs (omega arith) in
    let m = narrow_sum xs in
    let s = sum_by-cons (λ w. w) x.width (widths xs) in
    omega arith

module _ (items : List Item) (first end : ℕ) (h : first ≤ end) (h' : end ≤ length items) (few : length items ≤ 4096) where
  pub width_is : (w : ℕ) → w ≡ (total_of column_ops (between first end items)).width → (w ≡ width_between (widths items) first end) × (w ≤ 1044480)
  width_is w e =
      let l = length-between items first end h' in
      let t = total_width (between first end items) (omega arith) in
      let m = narrow_sum (between first end items) in
      let b = map-between (λ i. i.width) first end items in
      let k = length-map items (λ i. i.width) in
      let s = widths_are_sums (widths items) first end h (omega arith) in
      (e ∙ t ∙ ap sum b ∙ sym s, omega arith)
