-- The runs of a paragraph: the longest stretches of one level.
use Rattle.std.specs.Prelude.{◌≡◌, ℕ, suc, ◌<◌, ◌≤◌, Bool, true, false, List, length, Ok, Err, Result, ◌≢◌, slice_index}
use Rattle.paragraph.specs.Faults.{number}
use Rattle.paragraph.specs.declared.fault.ParagraphFault.{ParagraphFault}
use Rattle.paragraph.specs.declared.run.Run.{Run}
use Rattle.paragraph.specs.declared.span.Span.{Span}

-- the longest stretch around the place p in which a test answers yes to every level: it answers no just outside
pub record StretchOf (levels : List ℕ) (Answers : ℕ → Bool → Type 0) (p : ℕ) (s : Span) : Type 0 where
  pub from : s.first ≤ p
  pub to : p ≤ s.end
  pub ends : s.end ≤ length levels
  pub passed : (i : ℕ) → s.first ≤ i → i < s.end → Answers (slice_index levels i) true
  pub left : (i : ℕ) → suc i ≡ s.first → Answers (slice_index levels i) false
  pub right : s.end < length levels → Answers (slice_index levels s.end) false

-- the run of these levels that holds the place p: one level inside, and another just outside
pub record RunOf (levels : List ℕ) (p : ℕ) (r : Run) : Type 0 where
  pub from : r.first ≤ p
  pub to : p < r.end
  pub ends : r.end ≤ length levels
  pub same : (i : ℕ) → r.first ≤ i → i < r.end → slice_index levels i ≡ r.level
  pub left : (i : ℕ) → suc i ≡ r.first → slice_index levels i ≢ r.level
  pub right : r.end < length levels → slice_index levels r.end ≢ r.level

-- the run of a place that is there, and the refusal 11 past the end
abbrev pub RunAnswer : List ℕ → ℕ → Result Run ParagraphFault → Type 0
RunAnswer levels p (Ok r) = RunOf levels p r
RunAnswer levels p (Err f) = (number f ≡ 11) × (length levels ≤ p)

-- a place lies in one run
abbrev pub RunIsUnique : Type 0
RunIsUnique = (levels : List ℕ) (p : ℕ) (r s : Run) → RunOf levels p r → RunOf levels p s → r ≡ s
