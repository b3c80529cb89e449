-- The refusals of a paragraph, by number, and by position where one item is refused.
use Rattle.std.specs.Prelude.{ℕ, Some, None, Ok, Err, Option, Result}
use Rattle.tree.specs.Plain.{number as tree_number}
use Rattle.paragraph.specs.declared.fault.ParagraphFault.{ParagraphFault}
use Rattle.paragraph.specs.declared.fault.ParagraphFault.TheVariants.{Place, Removed, Wide, List, Scratch, Tree}

-- the number of each refusal
abbrev pub number : ParagraphFault → ℕ
number Place = 11
number Removed = 12
number (Wide p) = 13
number List = 15
number Scratch = 16
number (Tree f) = tree_number f

-- the position of the refused item
abbrev pub position : ParagraphFault → Option ℕ
position Place = None
position Removed = None
position (Wide p) = Some p
position List = None
position Scratch = None
position (Tree f) = None

-- a refusal as it is told: its number and position
pub record Refusal : Type 0 where
  pub number : ℕ
  pub position : Option ℕ

-- a refusal of no one item
abbrev pub plain : ℕ → Refusal
plain n = record { number = n; position = None }

-- an answer, with the refusal as it is told in place of the fault
abbrev pub numbered : {A : Type 0} → Result A ParagraphFault → Result A Refusal
numbered (Ok x) = Ok x
numbered (Err f) = Err (record { number = number f; position = position f })

-- whether a call was accepted, or how it was refused
abbrev pub verdict : {A : Type 0} → Result A ParagraphFault → Result (Unit {0}) Refusal
verdict (Ok x) = Ok tt
verdict (Err f) = Err (record { number = number f; position = position f })
