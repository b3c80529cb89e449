use Rattle.std.proofs.Common.{◌≡◌, ◌≤◌, length, sym, ap, ◌∙◌}
use mathlib.Core.Path.{subst⁻¹}
use Rattle.std.specs.List.{AllByRecursion}
use Rattle.std.proofs.lemmas.List.{length-map}
use Rattle.rules.specs.Order.{L2}
use Rattle.rules.proofs.ByContexts.{levels_are_low_lem}
use Rattle.bidi.specs.Items.{classes}
use Rattle.bidi.specs.Resolving.{base_of, levels_of}
use Rattle.listing.proofs.listing.listing.Goals as goal

pub add_all-requires : goal.add_all-requires
add_all-requires c =
    let items = c.args.items.now in
    let direction = c.args.direction in
    let low = levels_are_low_lem (base_of direction items) (classes items) in
    let levels : c.as_slice-2.result.now ≡ levels_of direction items = c.as_slice-2.ensures.value ∙ c.in_ok-base.ensures.1 in
    let first : c.as_slice.result.now ≡ levels_of direction items = c.as_slice.ensures.value ∙ c.in_ok-base.ensures.1 in (
      ap length levels ∙ low.0 ∙ length-map items (λ i. i.class),
      (subst⁻¹ (AllByRecursion (λ l. l ≤ 2)) levels low.1, c.as_slice-3.ensures.value ∙ c.in_ok-places.ensures ∙ ap L2 (first ∙ sym levels)),
    )
