-- The visual order of the items of a paragraph, and the column of each. An item is named by its place.
use Rattle.std.specs.Prelude.{ℕ, zero, suc, max, true, false, List, [], ◌∷◌, ◌++◌, length, sum_by, ◌==◌, nat_le, slice_index}

-- the number at a place, 0 where there is none
abbrev pub at : List ℕ → ℕ → ℕ
at xs p = slice_index xs p

-- the places from `first` on, `count` of them
abbrev pub places : ℕ → ℕ → List ℕ
places first zero = []
places first (suc count) = first ∷ places (suc first) count

-- the list with each unbroken sequence at level k or above reversed, where `run` is the sequence open so far, reversed
abbrev pub turned : (ℕ → ℕ) → ℕ → List ℕ → List ℕ → List ℕ
turned level k run [] = run
turned level k run (p ∷ ps) = elim (nat_le k (level p)) [ true ↦ turned level k (p ∷ run) ps | false ↦ run ++ (p ∷ turned level k [] ps) ]

-- each unbroken sequence at level k or above, reversed
abbrev pub reversed : (ℕ → ℕ) → ℕ → List ℕ → List ℕ
reversed level k ps = turned level k [] ps

-- that from level k down to level 1
abbrev pub reordered : (ℕ → ℕ) → ℕ → List ℕ → List ℕ
reordered level zero ps = ps
reordered level (suc k) ps = reordered level k (reversed level (suc k) ps)

-- the highest level
abbrev pub highest : List ℕ → ℕ
highest [] = 0
highest (l ∷ ls) = max l (highest ls)

-- L2: from the highest level down to 1, each unbroken sequence at that level or above is reversed
unfoldable pub L2 : List ℕ → List ℕ
L2 levels = reordered (at levels) (highest levels) (places 0 (length levels))

-- the places that stand before p
abbrev pub before : ℕ → List ℕ → List ℕ
before p [] = []
before p (q ∷ qs) = elim (p == q) [ true ↦ [] | false ↦ q ∷ before p qs ]

-- the column of the item at p: the widths of the items before it in the visual order
abbrev pub column_of : List ℕ → List ℕ → ℕ → ℕ
column_of levels widths p = sum_by (at widths) (before p (L2 levels))
