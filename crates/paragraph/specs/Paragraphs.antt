-- What is told of a paragraph: its items, its base direction, the levels and columns that the rules give them.
use Rattle.std.specs.Prelude.{ℕ, List}
use Rattle.tree.specs.Trees.{elements_of, capacity_of}
use Rattle.rules.specs.declared.classes.Side.{Side}
use Rattle.bidi.specs.Resolving.{base_of, levels_of}
use Rattle.bidi.specs.declared.item.Item.{Item}
use Rattle.paragraph.specs.Plain.{Plain}
use Rattle.paragraph.specs.declared.paragraph.Paragraph.{Paragraph}

-- the items, in paragraph order
abbrev pub items_of : Paragraph → List Item
items_of p = elements_of p.tree.now

-- how many items there can be
abbrev pub room_of : Paragraph → ℕ
room_of p = capacity_of p.tree.now

-- the base direction that the rules give
abbrev pub base_in : Paragraph → Side
base_in p = base_of p.direction (items_of p)

-- the levels that the rules give, in paragraph order
abbrev pub levels_in : Paragraph → List ℕ
levels_in p = levels_of p.direction (items_of p)

-- what it is, plainly
abbrev pub plain_of : Paragraph → Plain
plain_of p = record { direction = p.direction; items = items_of p }
