-- A part built of elements, and the tree that it makes.
use Rattle.std.specs.Prelude.{◌≡◌, ℕ, ◌-◌, ◌*◌, ◌^◌, ◌<◌, ◌≤◌, List, [], Option}
use Rattle.std.specs.List.{between}
use Rattle.tree.specs.Changes.{TreeIn}
use Rattle.tree.specs.Measures.{Operations}
use Rattle.tree.specs.Shapes.{Shape, size, tall, elements, Balanced, Totalled, uses}
use Rattle.tree.specs.Surgery.{Becomes}
use Rattle.tree.specs.declared.row.Heads.{Heads}
use Rattle.tree.specs.declared.row.Row.{Row}

-- a part is as low as its size allows: its height is the number of binary digits of its size
pub record Even {E T : Type 0} (s : Shape E T) : Type 0 where
  pub balance : Balanced s
  pub high : size s < 2 ^ tall s
  pub low : 0 < size s → 2 ^ tall s ≤ 2 * size s

-- the elements of a stretch stand below a link, each in the row of its place
pub record Built {E T : Type 0} (k : Operations E T) (old rows : List (Row E T)) (xs : List E) (first end : ℕ) (link : Option ℕ) (s : Shape E T) : Type 0 where
  pub becomes : Becomes old rows link s
  pub list : elements s ≡ between first end xs
  pub many : size s ≡ end - first
  pub before : (n : ℕ) → n < first → uses s n ≡ 0
  pub behind : (n : ℕ) → end ≤ n → uses s n ≡ 0
  pub once : (n : ℕ) → uses s n ≤ 1
  pub even : Even s
  pub totals : Totalled k s

-- such a part was built
abbrev pub Builds : {E T : Type 0} → Operations E T → (old rows : List (Row E T)) → List E → ℕ → ℕ → Option ℕ → Type 0
Builds {E} {T} k old rows xs first end link = (s : Shape E T) × Built k old rows xs first end link s

-- the heads of a tree of just these elements, with right totals
abbrev pub Filling : {E T : Type 0} → Operations E T → List (Row E T) → Heads → List E → Type 0
Filling {E} {T} k rows h xs = (s : Shape E T) × TreeIn rows h s [] × ((elements s ≡ xs) × Totalled k s)
