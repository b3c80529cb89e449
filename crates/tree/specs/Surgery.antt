-- How shapes are rebalanced, and what the functions that write rows ask for and leave.
use Rattle.std.specs.Prelude.{◌≡◌, ℕ, ◌+◌, ◌-◌, ◌<◌, ◌≤◌, cond, List, length, Some, None, Option, ◌==◌, nat_le, nat_lt}
use Rattle.std.specs.List.{slice_get}
use Rattle.tree.specs.Measures.{Operations}
use Rattle.tree.specs.Shapes.{Shape, leaf, node, tall, size, top_total, Under, uses, one}
use Rattle.tree.specs.declared.row.Row.{Row}
use Rattle.tree.specs.declared.row.Part.{Part}

-- what a parent needs to know of a part
abbrev pub part_of : {E T : Type 0} → Operations E T → Shape E T → Part T
part_of k s = record { height = tall s; count = size s; total = top_total k s }

abbrev pub row_height : {E T : Type 0} → Option (Row E T) → ℕ
row_height None = 0
row_height (Some r) = r.height

-- the height that the rows store below a link
abbrev pub height_at : {E T : Type 0} → List (Row E T) → Option ℕ → ℕ
height_at rows None = 0
height_at rows (Some i) = row_height (slice_get rows i)

-- two parts on either side of the row i, all apart
pub record Split {E T : Type 0} (rows : List (Row E T)) (left : Option ℕ) (i : ℕ) (right : Option ℕ) (a b : Shape E T) : Type 0 where
  pub on_left : Under rows left a
  pub on_right : Under rows right b
  pub apart : (n : ℕ) → uses a n + one i n + uses b n ≤ 1
  pub at : i < length rows
  pub few : size a + 1 + size b ≤ 4096

-- the shape s now stands below a link, and no row outside it was touched
pub record Becomes {E T : Type 0} (old rows : List (Row E T)) (link : Option ℕ) (s : Shape E T) : Type 0 where
  pub under : Under rows link s
  pub kept : (n : ℕ) → uses s n ≡ 0 → slice_get rows n ≡ slice_get old n

-- a row outside a part, to be put in before a place of it
pub record Fresh {E T : Type 0} (rows : List (Row E T)) (link : Option ℕ) (place fresh : ℕ) (s : Shape E T) : Type 0 where
  pub under : Under rows link s
  pub apart : (n : ℕ) → uses s n + one fresh n ≤ 1
  pub at : fresh < length rows
  pub within : place ≤ size s
  pub room : size s < 4096

-- a part whose rows are apart
pub record Loose {E T : Type 0} (rows : List (Row E T)) (link : Option ℕ) (s : Shape E T) : Type 0 where
  pub under : Under rows link s
  pub apart : (n : ℕ) → uses s n ≤ 1

-- two parts side by side, apart
pub record Sides {E T : Type 0} (rows : List (Row E T)) (left right : Option ℕ) (a b : Shape E T) : Type 0 where
  pub on_left : Under rows left a
  pub on_right : Under rows right b
  pub apart : (n : ℕ) → uses a n + uses b n ≤ 1
  pub few : size a + size b ≤ 4096

-- the first of two where a part is empty, else the second
abbrev pub past : {E T : Type 0} {X : Type 0} → Shape E T → X → X → X
past leaf x y = x
past (node a i e t b) x y = y

-- the last row of a part, or another
abbrev pub last_row : {E T : Type 0} → ℕ → Shape E T → ℕ
last_row d leaf = d
last_row d (node a i e t b) = last_row i b

-- the last element of a part, or another
abbrev pub last_of : {E T : Type 0} → E → Shape E T → E
last_of d leaf = d
last_of d (node a i e t b) = last_of e b

-- the row of a place
abbrev pub row_in : {E T : Type 0} → Shape E T → ℕ → ℕ
row_in leaf p = 0
row_in (node a i e t b) p = cond (nat_lt p (size a)) (row_in a p) (cond (p == size a) i (row_in b (p - size a - 1)))

module _ {E T : Type 0} (k : Operations E T) where
  -- two parts under a row, with the total of all
  abbrev pub joined : Shape E T → ℕ → E → Shape E T → Shape E T
  joined a i e b = node a i e (k.join (k.join (top_total k a) (k.of e)) (top_total k b)) b

  abbrev pub double_right : Shape E T → ℕ → E → Shape E T → ℕ → E → Shape E T → Shape E T
  double_right c li le leaf i e b = joined (joined c li le leaf) i e b
  double_right c li le (node d di de t f) i e b = joined (joined c li le d) di de (joined f i e b)

  -- a rotation to the right, single or double
  abbrev pub rotate_right : Shape E T → ℕ → E → Shape E T → Shape E T
  rotate_right leaf i e b = joined leaf i e b
  rotate_right (node c li le t d) i e b = cond (nat_le (tall d) (tall c)) (joined c li le (joined d i e b)) (double_right c li le d i e b)

  abbrev pub double_left : Shape E T → ℕ → E → Shape E T → ℕ → E → Shape E T → Shape E T
  double_left a i e leaf ri re d = joined a i e (joined leaf ri re d)
  double_left a i e (node f ci ce t c) ri re d = joined (joined a i e f) ci ce (joined c ri re d)

  -- a rotation to the left, single or double
  abbrev pub rotate_left : Shape E T → ℕ → E → Shape E T → Shape E T
  rotate_left a i e leaf = joined a i e leaf
  rotate_left a i e (node c ri re t d) = cond (nat_le (tall c) (tall d)) (joined (joined a i e c) ri re d) (double_left a i e c ri re d)

  -- two parts under a row, rotated where one is too high
  abbrev pub rebalanced : Shape E T → ℕ → E → Shape E T → Shape E T
  rebalanced a i e b = cond (nat_lt (tall b + 1) (tall a)) (rotate_right a i e b) (cond (nat_lt (tall a + 1) (tall b)) (rotate_left a i e b) (joined a i e b))

  -- the row f with the element x, put in before a place
  abbrev pub inserted_at : Shape E T → ℕ → ℕ → E → Shape E T
  inserted_at leaf p f x = joined leaf f x leaf
  inserted_at (node a i e t b) p f x = cond (nat_le p (size a)) (rebalanced (inserted_at a p f x) i e b) (rebalanced a i e (inserted_at b (p - size a - 1) f x))

  -- all but the last element
  abbrev pub rest : Shape E T → Shape E T
  rest leaf = leaf
  rest (node a i e t b) = past b a (rebalanced a i e (rest b))

  -- two parts side by side, under the last row of the first
  abbrev pub merged : Shape E T → Shape E T → Shape E T
  merged leaf b = b
  merged (node a i e t c) b = rebalanced (rest (node a i e t c)) (last_row i c) (last_of e c) b

  -- the element at a place taken out
  abbrev pub removed_at : Shape E T → ℕ → Shape E T
  removed_at leaf p = leaf
  removed_at (node a i e t b) p = cond (nat_lt p (size a)) (rebalanced (removed_at a p) i e b) (cond (p == size a) (merged a b) (rebalanced a i e (removed_at b (p - size a - 1))))

  -- another element at a place
  abbrev pub changed_at : Shape E T → ℕ → E → Shape E T
  changed_at leaf p x = leaf
  changed_at (node a i e t b) p x = cond (nat_lt p (size a)) (joined (changed_at a p x) i e b) (cond (p == size a) (joined a i x b) (joined a i e (changed_at b (p - size a - 1) x)))
