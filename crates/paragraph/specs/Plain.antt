-- The plain paragraph: what it is, what it answers to an edit, and what it then is.
use Rattle.std.specs.Prelude.{ℕ, ◌+◌, ◌-◌, cond, List, length, Some, None, Ok, Err, Option, Result, nat_lt, position}
use Rattle.tree.specs.Plain.{accepted, spliced}
use Rattle.rules.specs.declared.classes.Direction.{Direction}
use Rattle.bidi.specs.Resolving.{levels_of}
use Rattle.bidi.specs.declared.item.Item.{Item}
use Rattle.paragraph.specs.Faults.{Refusal, plain}

-- a direction and items
pub record Plain : Type 0 where
  pub direction : Direction
  pub items : List Item

-- its levels by the rules
abbrev pub levels_of_plain : Plain → List ℕ
levels_of_plain p = levels_of p.direction p.items

-- the position of the first item wider than two columns
abbrev pub first_wide : List Item → Option ℕ
first_wide items = position (λ item. nat_lt 2 item.width) items

-- a too wide item is refused before what follows
abbrev pub unless_wide : Option ℕ → Result (Unit {0}) Refusal → Result (Unit {0}) Refusal
unless_wide None r = r
unless_wide (Some p) r = Err (record { number = 13; position = Some p })

-- `removed` items from a place on are replaced by new ones, in a paragraph with room for so many
abbrev pub edit_answer : ℕ → List Item → ℕ → ℕ → List Item → Result (Unit {0}) Refusal
edit_answer room xs place removed new =
    cond (nat_lt (length xs) place) (Err (plain 11))
    (cond (nat_lt (length xs - place) removed) (Err (plain 12))
    (unless_wide (first_wide new) (cond (nat_lt room (length xs - removed + length new)) (Err (plain 2)) (Ok tt))))

-- the items before the place, then the new ones, then those behind the removed
abbrev pub after_edit : ℕ → List Item → ℕ → ℕ → List Item → List Item
after_edit room xs place removed new = accepted (edit_answer room xs place removed new) (spliced xs place (place + removed) new) xs

-- what the plain paragraph is after an edit
abbrev pub edited : ℕ → Plain → ℕ → ℕ → List Item → Plain
edited room p place removed new = record { direction = p.direction; items = after_edit room p.items place removed new }

-- and after a turn
abbrev pub turned : Plain → Direction → Plain
turned p d = record { direction = d; items = p.items }
