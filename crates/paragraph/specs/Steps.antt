-- Contexts along the items of a part, and the level of an item between them.
use Rattle.std.specs.Prelude.{ℕ, ◌+◌, List, take, drop, slice_index_or}
use Rattle.rules.specs.Contexts.{after_all, before_all, level_at}
use Rattle.rules.specs.declared.classes.Class.{Class}
use Rattle.rules.specs.declared.classes.Class.TheVariants.{L}
use Rattle.rules.specs.declared.classes.Side.{Side}
use Rattle.rules.specs.declared.contexts.Left.{Left}
use Rattle.rules.specs.declared.contexts.Right.{Right}

-- the class that stands for no item
abbrev pub none : Class
none = L

-- the left context behind a part
abbrev pub left : Left → List Class → Left
left l cs = after_all l cs

-- the right context before a part
abbrev pub right : Right → List Class → Right
right r cs = before_all cs r

-- the level of the item at place k of a part that stands between two contexts
abbrev pub level_in : Side → Left → Right → List Class → ℕ → ℕ
level_in b l r cs k = level_at b (left l (take k cs)) (slice_index_or cs k none) (right r (drop (k + 1) cs))
