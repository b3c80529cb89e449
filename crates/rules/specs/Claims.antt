-- What is claimed of the contexts.
use Rattle.std.specs.Prelude.{◌≡◌, ℕ, ◌≤◌, List, ◌∷◌, ◌++◌, length, slice_index}
use Rattle.std.specs.List.{AllByRecursion}
use Rattle.rules.specs.declared.classes.Class.{Class}
use Rattle.rules.specs.declared.classes.Side.{Side}
use Rattle.rules.specs.declared.contexts.Left.{Left}
use Rattle.rules.specs.declared.contexts.Right.{Right}
use Rattle.rules.specs.Rules.{levels}
use Rattle.rules.specs.Contexts.{start, after_all, end, before_all, level_at}

-- the left context at a place: gathered from the items before it
abbrev pub left_of : Side → List Class → Left
left_of base cs = after_all (start base) cs

-- the right context at a place: gathered from the items behind it
abbrev pub right_of : Side → List Class → Right
right_of base cs = before_all cs (end base)

-- the rules' level of the item of class c between these items
abbrev pub level_between : Side → List Class → Class → List Class → ℕ
level_between base xs c ys = slice_index (levels base (xs ++ (c ∷ ys))) (length xs)

-- in every paragraph, the rules' level of an item is that of the contexts on both sides of it
abbrev pub LevelsByContexts : Type 0
LevelsByContexts =
    (base : Side) (xs : List Class) (c : Class) (ys : List Class)
    → level_between base xs c ys ≡ level_at base (left_of base xs) c (right_of base ys)

-- n is the rules' level of an item of class c in every paragraph in which it has these contexts
abbrev pub IsLevel : Side → Left → Class → Right → ℕ → Type 0
IsLevel base l c r n =
    (xs ys : List Class) → l ≡ left_of base xs → r ≡ right_of base ys → n ≡ level_between base xs c ys

-- every item has a level, and none is above 2
abbrev pub LevelsAreLow : Type 0
LevelsAreLow = (base : Side) (cs : List Class) → (length (levels base cs) ≡ length cs) × AllByRecursion (λ l. l ≤ 2) (levels base cs)
