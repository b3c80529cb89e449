-- What resolving the items of a slice answers and leaves.
use Rattle.std.specs.Prelude.{ℕ, cond, List, [], ◌∷◌, ◌++◌, length, drop, Ok, Err, Result, nat_le}
use Rattle.tree.specs.Measures.{total_of}
use Rattle.rules.specs.declared.classes.Direction.{Direction}
use Rattle.rules.specs.declared.classes.Side.{Side}
use Rattle.rules.specs.Rules.{base_direction, levels}
use Rattle.bidi.specs.declared.fault.Fault.{Fault}
use Rattle.bidi.specs.declared.fault.Fault.TheVariants.{Short}
use Rattle.bidi.specs.declared.item.Item.{Item}
use Rattle.bidi.specs.Items.{classes}
use Rattle.bidi.specs.Sums.{context_ops}

-- the base direction of a paragraph
abbrev pub base_of : Direction → List Item → Side
base_of direction items = base_direction direction (classes items)

-- the levels of a paragraph, by the rules
abbrev pub levels_of : Direction → List Item → List ℕ
levels_of direction items = levels (base_of direction items) (classes items)

-- the base direction, where the buffer has a byte for each item
abbrev pub resolve_answer : Direction → List Item → List ℕ → Result Side Fault
resolve_answer direction items buffer = cond (nat_le (length items) (length buffer)) (Ok (base_of direction items)) (Err Short)

-- the buffer then: the levels, and the rest as it was; nothing is touched where it is too short
abbrev pub resolve_buffer : Direction → List Item → List ℕ → List ℕ
resolve_buffer direction items buffer = cond (nat_le (length items) (length buffer)) (levels_of direction items ++ drop (length items) buffer) buffer

-- for each item, what the items behind it do to right contexts
abbrev pub behind : List Item → List ℕ
behind [] = []
behind (e ∷ es) = (total_of context_ops es).right ∷ behind es
