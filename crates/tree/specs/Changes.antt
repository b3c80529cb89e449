-- What an insertion, a removal and a change of one element leave in the rows.
use Rattle.std.specs.Prelude.{◌≡◌, ℕ, List, Some}
use Rattle.std.specs.List.{slice_get}
use Rattle.tree.specs.Measures.{Operations}
use Rattle.tree.specs.Shapes.{Shape, elements, Whole}
use Rattle.tree.specs.Surgery.{Becomes, inserted_at, removed_at, changed_at, row_in}
use Rattle.tree.specs.declared.row.Heads.{Heads}
use Rattle.tree.specs.declared.row.Row.{Row}
use Rattle.tree.specs.declared.remove.Detached.{Detached}

-- the element at a place was taken out, and is told with its row
pub record Removes {E T : Type 0} (k : Operations E T) (old rows : List (Row E T)) (s : Shape E T) (place : ℕ) (d : Detached E) : Type 0 where
  pub left : Becomes old rows d.rest (removed_at k s place)
  pub from : d.row ≡ row_in s place
  pub told : slice_get (elements s) place ≡ Some d.element

-- the heads of a tree over its rows: its shape and its free rows
abbrev pub TreeIn : {E T : Type 0} → List (Row E T) → Heads → Shape E T → List ℕ → Type 0
TreeIn rows h s f = Whole rows h.root h.free h.used h.count s f

-- an element was put before a place, in some row
abbrev pub Insertion : {E T : Type 0} → Operations E T → (old rows : List (Row E T)) → (was is : Heads) → ℕ → E → Type 0
Insertion {E} {T} k old rows was is place x =
    (s : Shape E T) (f : List ℕ) → TreeIn old was s f → (fresh : ℕ) × (left : List ℕ) × TreeIn rows is (inserted_at k s place fresh x) left

-- the element at a place was taken out, and is told
abbrev pub Removal : {E T : Type 0} → Operations E T → (old rows : List (Row E T)) → (was is : Heads) → ℕ → E → Type 0
Removal {E} {T} k old rows was is place x =
    (s : Shape E T) (f : List ℕ) → TreeIn old was s f → ((left : List ℕ) × TreeIn rows is (removed_at k s place) left) × (slice_get (elements s) place ≡ Some x)

-- the element at a place was changed, and no row moved
abbrev pub Setting : {E T : Type 0} → Operations E T → (old rows : List (Row E T)) → Heads → ℕ → E → Type 0
Setting {E} {T} k old rows heads place x = (s : Shape E T) (f : List ℕ) → TreeIn old heads s f → TreeIn rows heads (changed_at k s place x) f
