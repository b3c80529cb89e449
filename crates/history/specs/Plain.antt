-- What the plain paragraph answers to a recorded change, and what it then is.
use Rattle.std.specs.Prelude.{◌≡◌, ℕ, List, [], ◌∷◌, length, IfOk, Ok, Result}
use Rattle.std.specs.List.{between}
use Rattle.rules.specs.Rules.{base_level}
use Rattle.bidi.specs.Resolving.{base_of}
use Rattle.bidi.specs.declared.item.Item.{Item}
use Rattle.paragraph.specs.Faults.{Refusal, verdict}
use Rattle.paragraph.specs.Plain.{Plain, levels_of_plain, edit_answer, edited, turned}
use Rattle.paragraph.specs.Spans.{Changed, SpanOf}
use Rattle.paragraph.specs.declared.fault.ParagraphFault.{ParagraphFault}
use Rattle.paragraph.specs.declared.outcome.Outcome.{Outcome}
use Rattle.history.specs.declared.request.Change.{Change}
use Rattle.history.specs.declared.request.Change.TheVariants.{Edit, Turn}

-- whether it accepts a change, whose new items are among the recorded ones, or how it refuses it
abbrev pub change_verdict : ℕ → List Item → Plain → Change → Result (Unit {0}) Refusal
change_verdict room recorded p (Edit place removed first end) = edit_answer room p.items place removed (between first end recorded)
change_verdict room recorded p (Turn d) = Ok tt

-- what it then is
abbrev pub after_change : ℕ → List Item → Plain → Change → Plain
after_change room recorded p (Edit place removed first end) = edited room p place removed (between first end recorded)
after_change room recorded p (Turn d) = turned p d

-- place i has a new item, or one whose level is unlike its former one, after a change of one plain paragraph to the other
abbrev pub Differs : List Item → Plain → Plain → Change → ℕ → Type 0
Differs recorded was is (Edit place removed first end) = Changed (levels_of_plain was) (levels_of_plain is) place removed (length (between first end recorded))
Differs recorded was is (Turn d) = Changed (levels_of_plain was) (levels_of_plain is) 0 0 0

-- an accepted change tells how many items are there, the base level, and the span from the first to the last item that differs
pub record ChangeTold (recorded : List Item) (was is : Plain) (c : Change) (o : Outcome) : Type 0 where
  pub count : o.count ≡ length is.items
  pub base : o.base ≡ base_level (base_of is.direction is.items)
  pub span : SpanOf (Differs recorded was is c) o.span

-- a change was answered as the plain paragraph answers it
pub record Answer (room : ℕ) (recorded : List Item) (p : Plain) (c : Change) (r : Result Outcome ParagraphFault) : Type 0 where
  pub same : verdict r ≡ change_verdict room recorded p c
  pub told : IfOk r (ChangeTold recorded p (after_change room recorded p c) c)

-- a list of changes, one after the other: what the plain paragraph then is
abbrev pub after_all : ℕ → List Item → Plain → List Change → Plain
after_all room recorded p [] = p
after_all room recorded p (c ∷ cs) = after_all room recorded (after_change room recorded p c) cs

-- and that each was answered so
abbrev pub Answered : ℕ → List Item → Plain → List Change → List (Result Outcome ParagraphFault) → Type 0
Answered room recorded p [] rs = Unit {0}
Answered room recorded p (c ∷ cs) [] = ⊥
Answered room recorded p (c ∷ cs) (r ∷ rs) = Answer room recorded p c r × Answered room recorded (after_change room recorded p c) cs rs
