-- An element of a part, with the totals on either side of it.
use Rattle.std.specs.Prelude.{◌≡◌, ℕ, ◌+◌, ◌<◌, List, take, drop, Some, Option}
use Rattle.std.specs.List.{slice_get}
use Rattle.tree.specs.Measures.{Operations, Lawful, total_of}
use Rattle.tree.specs.Shapes.{Shape, size, elements, Totalled, Under}
use Rattle.tree.specs.declared.row.Row.{Row}

-- the totals on either side of a place, joined to what stands before and behind the part
abbrev pub TotalsBeside : {E T : Type 0} → Operations E T → Shape E T → ℕ → T → T → T → T → Type 0
TotalsBeside k s p before behind l r = (l ≡ k.join before (total_of k (take p (elements s)))) × (r ≡ k.join (total_of k (drop (p + 1) (elements s))) behind)

-- the element at a place was found, and what stands on either side of it was summed up
pub record Around {E T : Type 0} (k : Operations E T) (s : Shape E T) (p : ℕ) (before behind : T) (r : T × E × T) : Type 0 where
  pub here : slice_get (elements s) p ≡ Some r.1
  pub sides : Totalled k s → Lawful k before → Lawful k behind → TotalsBeside k s p before behind r.0 r.2

-- on the way down to a place: it is a place of a part below, and whatever is found around it there is what is found around it in the whole
abbrev pub Descends : {E T : Type 0} → Operations E T → List (Row E T) → Shape E T → ℕ → Option ℕ → ℕ → T → T → Type 0
Descends {E} {T} k rows s target link place before behind =
    (p : Shape E T) × Under rows link p × ((place < size p) × ((r : T × E × T) → Around k p place before behind r → Around k s target k.unit k.unit r))
