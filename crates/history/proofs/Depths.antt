-- What a depth in a paragraph's rows shows of its items.
use Rattle.std.proofs.Common.{◌≡◌, ℕ, ◌-◌, ◌^◌, ◌≤◌, List, length, subst}
use Rattle.tree.specs.Trees.{shape, elements_of, depth_in, least, places_at}
use Rattle.tree.proofs.Facts.{deep_enough, sparse_enough}
use Rattle.bidi.specs.declared.item.Item.{Item}
use Rattle.paragraph.specs.Paragraphs.{items_of}
use Rattle.paragraph.specs.declared.paragraph.Paragraph.{Paragraph}

module _ (p : Paragraph) (items : List Item) (is : items_of p ≡ items) where
  pub deep_in : (place : ℕ) → least (depth_in p.tree.now place) ≤ length items
  unfolding shape elements_of depth_in
  deep_in place = let t = p.tree.now in subst (λ xs. least (depth_in t place) ≤ length xs) is (deep_enough {h = t.heads} t.sound place)

  pub sparse_in : (d : ℕ) → places_at (depth_in p.tree.now) d (length items) ≤ 2 ^ (d - 1)
  unfolding shape elements_of depth_in
  sparse_in d = let t = p.tree.now in subst (λ xs. places_at (depth_in t) d (length xs) ≤ 2 ^ (d - 1)) is (sparse_enough {h = t.heads} t.sound d)
