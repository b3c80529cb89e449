-- An edit as its edges see it: what is needed of the items before it. And an item between its contexts.
use Rattle.std.specs.Prelude.{ℕ, ◌+◌, ◌-◌, ◌<◌, ◌≤◌, ◌⊎◌, List, length, take, drop, ◌≢◌, slice_index_or}
use Rattle.paragraph.specs.Steps.{none, left, right, level_in}
use Rattle.paragraph.specs.Spans.{Given}
use Rattle.rules.specs.Contexts.{start, end}
use Rattle.rules.specs.declared.classes.Class.{Class}
use Rattle.rules.specs.declared.classes.Side.{Side}
use Rattle.rules.specs.declared.contexts.Left.{Left}
use Rattle.rules.specs.declared.contexts.Right.{Right}
use Rattle.bidi.specs.Items.{classes}
use Rattle.paragraph.specs.Paragraphs.{items_of}
use Rattle.paragraph.specs.declared.change.Change.{Change}
use Rattle.paragraph.specs.declared.span.Edges.{Edges}
use Rattle.paragraph.specs.declared.span.Surroundings.{Surroundings}

-- the edges of the stretch [from, to)
abbrev pub edges : Side → List Class → ℕ → ℕ → Edges
edges b xs from to =
    record { base = b; right = right (end b) (drop from xs); left = left (start b) (take to xs) }

-- the class of the item at a place, between its contexts
abbrev pub surroundings : Side → List Class → ℕ → Surroundings
surroundings b xs k = record { left = left (start b) (take k xs); class = slice_index_or xs k none; right = right (end b) (drop (k + 1) xs) }

-- the item at place k of a part has other levels between other contexts
abbrev pub Other : Side → Left → Right → Side → Left → Right → List Class → ℕ → Type 0
Other b l r b' l' r' xs k = (k < length xs) × (level_in b l r xs k ≢ level_in b' l' r' xs k)

-- the items that stand from place `from` on, where those of P are counted from 0
abbrev pub Moved : ℕ → (ℕ → Type 0) → ℕ → Type 0
Moved from P i = (from ≤ i) × P (i - from)

-- the items before the edit: they see it from the left
abbrev pub OtherBefore : Edges → Edges → List Class → ℕ → ℕ → Type 0
OtherBefore e f xs place =
    Other e.base (start e.base) e.right f.base (start f.base) f.right (take place xs)

-- the items behind the edit: they see it from the right
abbrev pub OtherBehind : Edges → Edges → List Class → ℕ → ℕ → Type 0
OtherBehind e f xs from =
    Other e.base e.left (end e.base) f.base f.left (end f.base) (drop from xs)

-- the item at place i is new or changed, from the items after the edit and the edges before and after it
abbrev pub ChangedBy : Edges → Edges → List Class → ℕ → ℕ → ℕ → Type 0
ChangedBy e f xs place count i =
    Given place count i
    ⊎ (OtherBefore e f xs place i ⊎ Moved (place + count) (OtherBehind e f xs (place + count)) i)

-- place i is new or changed by a change
unfoldable pub IsChanged : Change → ℕ → Type 0
IsChanged c = ChangedBy c.was c.is (classes (items_of c.paragraph.now)) c.place c.count
