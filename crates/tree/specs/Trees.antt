-- What is told of a tree: its elements, its capacity, its depths, and whether its stored totals are right.
use Rattle.std.specs.Prelude.{ℕ, zero, suc, ◌+◌, min, cond, List, length, ◌==◌}
use Rattle.tree.specs.Measures.{Operations}
use Rattle.tree.specs.Shapes.{Shape, elements, depth, Totalled, Sound, shape_of}
use Rattle.tree.specs.declared.row.Row.{Row}
use Rattle.tree.specs.declared.tree.Tree.{Tree}

-- the rows as they stand
abbrev pub rows_of : {E T : Type 0} → Tree E T → List (Row E T)
rows_of t = t.rows.now

-- the shape that the rows form below the root
unfoldable pub shape : {E T : Type 0} → Tree E T → Shape E T
shape t = shape_of (rows_of t) t.heads.root

-- the elements, first to last
unfoldable pub elements_of : {E T : Type 0} → Tree E T → List E
elements_of t = elements (shape t)

-- the lesser of 4,096 and the number of rows
unfoldable pub capacity_of : {E T : Type 0} → Tree E T → ℕ
capacity_of t = min 4096 (length (rows_of t))

-- the depth of a place, counted in the rows: from the root to the place's row, both included
unfoldable pub depth_in : {E T : Type 0} → Tree E T → ℕ → ℕ
depth_in t p = depth (shape t) p

-- the rows in use have the heights and counts of one balanced tree, none is used twice, and every other row can be used again
unfoldable pub RowsSound : {E T : Type 0} → Tree E T → Type 0
RowsSound t = ∥ (Sound (rows_of t) t.heads.root t.heads.free t.heads.used t.heads.count) ∥₁

-- every row in use stores the total of its part
unfoldable pub TotalsRight : {E T : Type 0} → Operations E T → Tree E T → Type 0
TotalsRight k t = Totalled k (shape t)

-- the least number of elements of a balanced tree of a height
abbrev pub least : ℕ → ℕ
least zero = 0
least (suc zero) = 1
least (suc (suc k)) = least (suc k) + least k + 1

-- how many of the places below n have a depth
abbrev pub places_at : (ℕ → ℕ) → ℕ → ℕ → ℕ
places_at deep k zero = 0
places_at deep k (suc n) = places_at deep k n + cond (deep n == k) 1 0
