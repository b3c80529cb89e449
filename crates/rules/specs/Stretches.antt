-- What is claimed of the visual order, and the column of an item by the stretches of levels around it.
use Rattle.std.specs.Prelude.{◌≡◌, ℕ, zero, suc, ◌+◌, ◌-◌, ◌*◌, ◌<◌, ◌≤◌, true, false, List, ◌∷◌, ◌++◌, reverse, length, take, sum_by, sum, nat_le, slice_index}
use Rattle.std.specs.List.{between, AllByRecursion}
use Rattle.rules.specs.Order.{at, places, reversed, highest, L2, column_of}

-- the places from i up to and without j
abbrev pub span : ℕ → ℕ → List ℕ
span i j = places i (j - i)

-- their widths
abbrev pub width_between : List ℕ → ℕ → ℕ → ℕ
width_between widths i j = sum_by (at widths) (span i j)

-- [a, b) is the longest stretch around p of places at level k or above
pub record Stretch (levels : List ℕ) (k p a b : ℕ) : Type 0 where
  pub from : a ≤ p
  pub to : p < b
  pub ends : b ≤ length levels
  pub high : (i : ℕ) → a ≤ i → i < b → k ≤ slice_index levels i
  pub left : (i : ℕ) → suc i ≡ a → slice_index levels i < k
  pub right : (b < length levels → slice_index levels b < k)

-- level 0: the widths before it; level 1: those before its stretch, then those behind it in the stretch;
-- level 2: those before the stretch of level 1, then those behind the stretch of level 2 in it, then those before it in the latter
abbrev pub ColumnsByStretches : Type 0
ColumnsByStretches =
    (levels widths : List ℕ) (p : ℕ)
    → p < length levels
    → (slice_index levels p ≡ 0 → column_of levels widths p ≡ width_between widths 0 p)
    × ((a b : ℕ) → slice_index levels p ≡ 1 → Stretch levels 1 p a b → column_of levels widths p ≡ width_between widths 0 a + width_between widths (p + 1) b)
    × ((a b c d : ℕ)
    → slice_index levels p ≡ 2
    → Stretch levels 1 p a b
    → Stretch levels 2 p c d
    → column_of levels widths p ≡ width_between widths 0 a + width_between widths d b + width_between widths c p)

-- reversal at one level turns a list at that level or above round, and goes to each side of a lower item by itself
abbrev pub ReversalLaws : Type 0
ReversalLaws =
    (level : ℕ → ℕ) (k : ℕ)
    → ((ps : List ℕ) → AllByRecursion (λ p. k ≤ level p) ps → reversed level k ps ≡ reverse ps)
    × ((ps : List ℕ) (q : ℕ) (qs : List ℕ) → level q < k → reversed level k (ps ++ (q ∷ qs)) ≡ reversed level k ps ++ (q ∷ reversed level k qs))

-- the visual order has the same items: every sum over them is the same
abbrev pub ItemsStay : Type 0
ItemsStay = (levels : List ℕ) (f : ℕ → ℕ) → sum_by f (L2 levels) ≡ sum_by f (places 0 (length levels))

-- L2 from level k down to level `low`
abbrev pub reordered_to : (ℕ → ℕ) → ℕ → ℕ → List ℕ → List ℕ
reordered_to level low zero ps = ps
reordered_to level low (suc k) ps = elim (nat_le low (suc k)) [ true ↦ reordered_to level low k (reversed level (suc k) ps) | false ↦ ps ]

-- to end at the lowest odd level, 2 * j + 1, as the standard words it, gives the same order
abbrev pub LowestOdd : Type 0
LowestOdd =
    (levels : List ℕ) (j : ℕ)
    → ((p i : ℕ) → at levels p ≡ 2 * i + 1 → j ≤ i)
    → 2 * j ≤ highest levels
    → L2 levels ≡ reordered_to (at levels) (2 * j + 1) (highest levels) (places 0 (length levels))

-- with levels at most 2, two reversals make the visual order
abbrev pub TwoReversals : Type 0
TwoReversals =
    (levels : List ℕ)
    → AllByRecursion (λ l. l ≤ 2) levels
    → L2 levels ≡ reversed (at levels) 1 (reversed (at levels) 2 (places 0 (length levels)))

-- read along the visual order, the column of each item is the width of what was read before it
abbrev pub ColumnsAlongTheOrder : Type 0
ColumnsAlongTheOrder =
    (levels widths : List ℕ) (i : ℕ)
    → i < length levels
    → column_of levels widths (slice_index (L2 levels) i) ≡ sum_by (at widths) (take i (L2 levels))

-- the widths between two places are those of that part of the list
abbrev pub WidthsAreSums : Type 0
WidthsAreSums = (widths : List ℕ) (i j : ℕ) → i ≤ j → j ≤ length widths → width_between widths i j ≡ sum (between i j widths)
