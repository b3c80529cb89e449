-- What a paragraph answers when it is asked for an item, its level or its column.
use Rattle.std.specs.Prelude.{◌≡◌, ℕ, ◌≤◌, cond, List, length, Some, Ok, Err, Result, nat_lt}
use Rattle.std.specs.List.{slice_get}
use Rattle.rules.specs.Order.{at, column_of}
use Rattle.bidi.specs.declared.item.Item.{Item}
use Rattle.paragraph.specs.Faults.{Refusal, plain}
use Rattle.paragraph.specs.declared.fault.ParagraphFault.{ParagraphFault}
use Rattle.paragraph.specs.declared.fault.ParagraphFault.TheVariants.{Place}

-- what is read at a place: the item there beside its depth, or the refusal 11 past the end
abbrev pub ReadAnswer : List Item → ℕ → ℕ → Result (Item × ℕ) ParagraphFault → Type 0
ReadAnswer items depth p (Ok told) = (slice_get items p ≡ Some told.0) × (told.1 ≡ depth)
ReadAnswer items depth p (Err f) = (f ≡ Place) × (length items ≤ p)

-- the level of the item at a place beside its depth
abbrev pub level_answer : List ℕ → ℕ → ℕ → Result (ℕ × ℕ) Refusal
level_answer levels depth p = cond (nat_lt p (length levels)) (Ok (at levels p, depth)) (Err (plain 11))

-- its column beside its width
abbrev pub column_answer : List ℕ → List ℕ → ℕ → Result (ℕ × ℕ) Refusal
column_answer levels widths p = cond (nat_lt p (length levels)) (Ok (column_of levels widths p, at widths p)) (Err (plain 11))
