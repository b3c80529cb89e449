-- The classes and the widths of items.
use Rattle.std.specs.Prelude.{ℕ, List, map}
use Rattle.rules.specs.declared.classes.Class.{Class}
use Rattle.bidi.specs.declared.item.Item.{Item}

-- the class of each item
abbrev pub classes : List Item → List Class
classes items = map (λ i. i.class) items

-- the width of each item
abbrev pub widths : List Item → List ℕ
widths items = map (λ i. i.width) items
