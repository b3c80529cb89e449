-- What a change of a paragraph is answered: its items' number, its base level, and the span of what changed.
use Rattle.std.specs.Prelude.{◌≡◌, ℕ, List, length, Ok, Err, Result}
use Rattle.rules.specs.Rules.{base_level}
use Rattle.rules.specs.declared.classes.Direction.{Direction}
use Rattle.bidi.specs.Resolving.{base_of}
use Rattle.bidi.specs.declared.item.Item.{Item}
use Rattle.paragraph.specs.Faults.{Refusal}
use Rattle.paragraph.specs.Paragraphs.{items_of, base_in, levels_in}
use Rattle.paragraph.specs.Plain.{Plain, levels_of_plain, first_wide, unless_wide, edit_answer, edited, turned}
use Rattle.paragraph.specs.Spans.{Changed, SpanOf, changed_span}
use Rattle.paragraph.specs.declared.outcome.Outcome.{Outcome}
use Rattle.paragraph.specs.declared.paragraph.Paragraph.{Paragraph}

-- the answer after a change by which just the places of P are new or changed
pub record OutcomeBy (p : Paragraph) (P : ℕ → Type 0) (o : Outcome) : Type 0 where
  pub count : o.count ≡ length (items_of p)
  pub base : o.base ≡ base_level (base_in p)
  pub span : SpanOf P o.span

-- the answer to a change that put `count` new items in the place of `removed` ones: the levels before and after it tell what changed
abbrev pub OutcomeOf : Paragraph → Paragraph → ℕ → ℕ → ℕ → Outcome → Type 0
OutcomeOf was is place removed count o = OutcomeBy is (Changed (levels_in was) (levels_in is) place removed count) o

-- items are taken unless one is wider than two columns
abbrev pub widths_answer : List Item → Result (Unit {0}) Refusal
widths_answer items = unless_wide (first_wide items) (Ok tt)

-- what is told of a change of one plain paragraph to another, which put `count` new items in the place of `removed` ones
abbrev pub change_told : Plain → Plain → ℕ → ℕ → ℕ → Outcome
change_told was is place removed count = record {
  count = length is.items;
  base = base_level (base_of is.direction is.items);
  span = changed_span (levels_of_plain was) (levels_of_plain is) place removed count;
}

-- an accepted call tells its outcome, a refused one its refusal
abbrev pub granted : {A : Type 0} → Result (Unit {0}) Refusal → A → Result A Refusal
granted (Ok _) x = Ok x
granted (Err r) x = Err r

-- what the plain paragraph tells of an edit
abbrev pub edit_told : ℕ → Plain → ℕ → ℕ → List Item → Result Outcome Refusal
edit_told room p place removed new = granted (edit_answer room p.items place removed new) (change_told p (edited room p place removed new) place removed (length new))

-- and of a turn
abbrev pub turn_told : Plain → Direction → Outcome
turn_told p d = change_told p (turned p d) 0 0 0
