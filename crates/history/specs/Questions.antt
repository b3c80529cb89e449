-- What the plain paragraph answers to a question, where each place has a depth.
use Rattle.std.specs.Prelude.{ℕ, Ok, Err, Result}
use Rattle.bidi.specs.Items.{widths}
use Rattle.paragraph.specs.Asking.{level_answer, column_answer}
use Rattle.paragraph.specs.Faults.{Refusal}
use Rattle.paragraph.specs.Plain.{Plain, levels_of_plain}
use Rattle.history.specs.declared.request.Question.{Question}
use Rattle.history.specs.declared.request.Question.TheVariants.{Level as ask_level, Column as ask_column}
use Rattle.history.specs.declared.request.Told.{Told}
use Rattle.history.specs.declared.request.Told.TheVariants.{Level, Column}

-- a level and a depth as they are told
abbrev pub level_told : Result (ℕ × ℕ) Refusal → Result Told Refusal
level_told (Ok (l, d)) = Ok (Level l d)
level_told (Err r) = Err r

-- a column and a width as they are told
abbrev pub column_told : Result (ℕ × ℕ) Refusal → Result Told Refusal
column_told (Ok (n, w)) = Ok (Column n w)
column_told (Err r) = Err r

-- the rules' level or column of the item at a place
abbrev pub question_answer : Plain → (ℕ → ℕ) → Question → Result Told Refusal
question_answer p deep (ask_level place) = level_told (level_answer (levels_of_plain p) (deep place) place)
question_answer p deep (ask_column place) = column_told (column_answer (levels_of_plain p) (widths p.items) place)
