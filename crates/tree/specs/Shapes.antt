-- The shape of a tree of rows, and what it means that rows hold it.
use Rattle.std.specs.Prelude.{◌≡◌, ℕ, zero, suc, ◌+◌, ◌-◌, ◌≤◌, max, cond, List, [], ◌∷◌, ◌++◌, length, Some, None, Option, ◌==◌, nat_lt}
use Rattle.std.specs.List.{slice_get}
use Rattle.tree.specs.Measures.{Operations}
use Rattle.tree.specs.declared.row.Row.{Row}

-- a binary tree: each node has the part to its left, its row's index, its element, the total that its row stores, and the part to its right
pub data Shape (E T : Type 0) : Type 0 where
  leaf : Shape E T
  node : Shape E T → ℕ → E → T → Shape E T → Shape E T

-- the row at the top, if any
abbrev pub top : {E T : Type 0} → Shape E T → Option ℕ
top leaf = None
top (node a i e t b) = Some i

-- the height: 0 of an absent row, else 1 more than the greater of the two below
abbrev pub tall : {E T : Type 0} → Shape E T → ℕ
tall leaf = 0
tall (node a i e t b) = 1 + max (tall a) (tall b)

-- the number of elements
abbrev pub size : {E T : Type 0} → Shape E T → ℕ
size leaf = 0
size (node a i e t b) = size a + 1 + size b

-- the elements, left to right
abbrev pub elements : {E T : Type 0} → Shape E T → List E
elements leaf = []
elements (node a i e t b) = elements a ++ (e ∷ elements b)

-- the number of rows from the top to a place, both included
abbrev pub depth : {E T : Type 0} → Shape E T → ℕ → ℕ
depth leaf p = 0
depth (node a i e t b) p = 1 + cond (nat_lt p (size a)) (depth a p) (cond (p == size a) 0 (depth b (p - size a - 1)))

-- the two heights below each row differ by at most 1
abbrev pub Balanced : {E T : Type 0} → Shape E T → Type 0
Balanced leaf = Unit {0}
Balanced (node a i e t b) = (tall a ≤ tall b + 1) × (tall b ≤ tall a + 1) × Balanced a × Balanced b

-- the total that the top row stores
abbrev pub top_total : {E T : Type 0} → Operations E T → Shape E T → T
top_total k leaf = k.unit
top_total k (node a i e t b) = t

-- each row stores the left part's total, then its element's, then the right part's
abbrev pub Totalled : {E T : Type 0} → Operations E T → Shape E T → Type 0
Totalled k leaf = Unit {0}
Totalled k (node a i e t b) = (t ≡ k.join (k.join (top_total k a) (k.of e)) (top_total k b)) × Totalled k a × Totalled k b

-- the row of a node: its links, height, count and total
abbrev pub row_of : {E T : Type 0} → Shape E T → E → T → Shape E T → Row E T
row_of a e t b = record { element = e; left = top a; right = top b; height = 1 + max (tall a) (tall b); count = size a + 1 + size b; total = t }

-- the rows hold a shape
abbrev pub Rep : {E T : Type 0} → List (Row E T) → Shape E T → Type 0
Rep rows leaf = Unit {0}
Rep rows (node a i e t b) = (slice_get rows i ≡ Some (row_of a e t b)) × Rep rows a × Rep rows b

-- a shape stands below a link
pub record Under {E T : Type 0} (rows : List (Row E T)) (link : Option ℕ) (s : Shape E T) : Type 0 where
  pub linked : link ≡ top s
  pub held : Rep rows s
  pub few : size s ≤ 4096

-- 1 at i, and 0 elsewhere
unfoldable pub one : ℕ → ℕ → ℕ
one i n = cond (i == n) 1 0

-- how often a shape uses the row n
abbrev pub uses : {E T : Type 0} → Shape E T → ℕ → ℕ
uses leaf n = 0
uses (node a i e t b) n = uses a n + one i n + uses b n

-- how often n stands in a list
abbrev pub times : List ℕ → ℕ → ℕ
times [] n = 0
times (i ∷ f) n = one i n + times f n

-- the rows given up, chained by their left links
abbrev pub Chain : {E T : Type 0} → List (Row E T) → Option ℕ → List ℕ → Type 0
Chain rows link [] = link ≡ None
Chain {E} {T} rows link (i ∷ f) = (link ≡ Some i) × ((r : Row E T) × (slice_get rows i ≡ Some r) × Chain rows r.left f)

-- of the rows below the mark `used`, m are in use, row n as often as u n says, and the others are chained in f: none is in both, none is lost
pub record Pool {E T : Type 0} (rows : List (Row E T)) (free : Option ℕ) (used : ℕ) (u : ℕ → ℕ) (m : ℕ) (f : List ℕ) : Type 0 where
  pub chain : Chain rows free f
  pub apart : (n : ℕ) → u n + times f n ≤ 1
  pub low : (n : ℕ) → used ≤ n → u n + times f n ≡ 0
  pub tallied : m + length f ≡ used
  pub long : used ≤ length rows
  pub small : used ≤ 4096

-- the rows hold one balanced tree below the root, each row in it used once, and every other row can be used again
pub record Whole {E T : Type 0} (rows : List (Row E T)) (root free : Option ℕ) (used count : ℕ) (s : Shape E T) (f : List ℕ) : Type 0 where
  pub under : Under rows root s
  pub balance : Balanced s
  pub pool : Pool rows free used (uses s) (size s) f
  pub counted : count ≡ size s

-- some tree stands in the rows, and some list of free rows
abbrev pub Sound : {E T : Type 0} → List (Row E T) → Option ℕ → Option ℕ → ℕ → ℕ → Type 0
Sound {E} {T} rows root free used count = (s : Shape E T) × (f : List ℕ) × Whole rows root free used count s f

-- a row that was read, with what its links lead to
abbrev pub grown : {E T : Type 0} → (Option ℕ → Shape E T) → ℕ → Option (Row E T) → Shape E T
grown go i None = leaf
grown go i (Some r) = node (go r.left) i r.element r.total (go r.right)

-- the shape read off the rows below a link, down to a depth
abbrev pub shape_at : {E T : Type 0} → ℕ → List (Row E T) → Option ℕ → Shape E T
shape_at zero rows link = leaf
shape_at (suc d) rows None = leaf
shape_at (suc d) rows (Some i) = grown (shape_at d rows) i (slice_get rows i)

-- the shape read off the rows below the root
abbrev pub shape_of : {E T : Type 0} → List (Row E T) → Option ℕ → Shape E T
shape_of rows root = shape_at (length rows) rows root
