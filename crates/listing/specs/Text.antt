-- How what the rules make of a paragraph is listed.
use Rattle.std.specs.Prelude.{ℕ, List, [], ◌∷◌, ◌++◌, map, length, codes, decimal}
use Rattle.rules.specs.declared.classes.Direction.{Direction}
use Rattle.rules.specs.Order.{places, L2, column_of}
use Rattle.rules.specs.Rules.{base_level}
use Rattle.bidi.specs.declared.item.Item.{Item}
use Rattle.bidi.specs.Items.{widths}
use Rattle.bidi.specs.Resolving.{base_of, levels_of}
use Rattle.bidi.specs.Sums.{held}
use Rattle.listing.specs.declared.refusal.Refusal.{Refusal}
use Rattle.listing.specs.declared.refusal.Refusal.TheVariants.{Fields, Direction as no_direction, Item as no_item, Memory}

-- values, each behind a space, by what is written of each
abbrev pub spaced_texts : {X : Type 0} → (X → List ℕ) → List X → List ℕ
spaced_texts written [] = []
spaced_texts written (x ∷ xs) = 32 ∷ (written x ++ spaced_texts written xs)

-- numbers, each behind a space
abbrev pub spaced : List ℕ → List ℕ
spaced ns = spaced_texts decimal ns

-- the column of each item
abbrev pub columns_from : List ℕ → List Item → List ℕ
columns_from levels items = map (λ p. held (column_of levels (widths items) p)) (places 0 (length items))

-- the base level, the levels, the visual order and the columns, each behind its name
abbrev pub listed_from : ℕ → List ℕ → List Item → List ℕ
listed_from base levels items =
    codes "base" ++ (spaced (base ∷ []) ++ (codes "\tlevels" ++ (spaced levels ++ (codes "\torder" ++ (spaced (L2 levels) ++ (codes "\tcolumns" ++ spaced (columns_from levels items)))))))

-- that of a paragraph
abbrev pub listed : Direction → List Item → List ℕ
listed direction items = listed_from (base_level (base_of direction items)) (levels_of direction items) items

-- the words for a refusal
abbrev pub reason : Refusal → List ℕ
reason Fields = codes "fields"
reason no_direction = codes "direction"
reason (no_item p) = codes "item " ++ decimal p
reason Memory = codes "memory"

-- a refusal: a mark, the number of the line, and the reason
abbrev pub refused_text : ℕ → Refusal → List ℕ
refused_text line refusal = codes "!\t" ++ (decimal line ++ (codes "\t" ++ reason refusal))
