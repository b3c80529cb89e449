-- What is claimed of the contexts measure: a total acts on contexts as its items do, one by one.
use Rattle.std.specs.Prelude.{◌≡◌, List}
use Rattle.tree.specs.Measures.{Lawful, total_of}
use Rattle.rules.specs.declared.classes.Direction.{Direction}
use Rattle.rules.specs.declared.classes.Side.{Side}
use Rattle.rules.specs.declared.contexts.Left.{Left}
use Rattle.rules.specs.declared.contexts.Right.{Right}
use Rattle.rules.specs.Contexts.{after_all, before_all}
use Rattle.rules.specs.Rules.{base_direction}
use Rattle.bidi.specs.declared.contexts.Contexts.{Contexts}
use Rattle.bidi.specs.declared.item.Item.{Item}
use Rattle.bidi.specs.Actions.{left_at, right_at, act_left, act_right}
use Rattle.bidi.specs.Items.{classes}
use Rattle.bidi.specs.Sums.{context_ops}

-- the left context behind a part
abbrev pub left_behind : Contexts → Left → Left
left_behind t l = act_left (left_at t.left) l

-- the right context before a part
abbrev pub right_before : Contexts → Right → Right
right_before t r = act_right (right_at t.right) r

-- m is the left context that l becomes behind all items of every part with this total
abbrev pub IsLeftBehind : Contexts → Left → Left → Type 0
IsLeftBehind t l m = (items : List Item) → t ≡ total_of context_ops items → m ≡ after_all l (classes items)

-- s is the right context that r becomes before all items of every part with this total
abbrev pub IsRightBefore : Contexts → Right → Right → Type 0
IsRightBefore t r s = (items : List Item) → t ≡ total_of context_ops items → s ≡ before_all (classes items) r

-- b is the base direction of every paragraph with this total
abbrev pub IsBase : Contexts → Direction → Side → Type 0
IsBase t d b = (items : List Item) → t ≡ total_of context_ops items → b ≡ base_direction d (classes items)

-- the action of a joining is that of the one part after the other
abbrev pub JoinsActInTurn : Type 0
JoinsActInTurn =
    (a b : Contexts) → Lawful context_ops a → Lawful context_ops b
    → ((l : Left) → left_behind (context_ops.join a b) l ≡ left_behind b (left_behind a l))
    × ((r : Right) → right_before (context_ops.join a b) r ≡ right_before a (right_before b r))
