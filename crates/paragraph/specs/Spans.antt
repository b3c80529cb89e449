-- What an edit changes, and the span of it.
use Rattle.std.specs.Prelude.{◌≡◌, ℕ, zero, suc, ◌+◌, ◌-◌, ◌<◌, ◌≤◌, Bool, true, cond, not, ◌⊎◌, List, length, Some, None, Option, ◌==◌, ◌≢◌, nat_lt, slice_index}
use Rattle.paragraph.specs.declared.span.Span.{Span}

-- the item at place i is one of the new ones
abbrev pub Given : ℕ → ℕ → ℕ → Type 0
Given place count i = (place ≤ i) × (i < place + count)

-- the item at place i, which stood before the edit too, has another level than then
abbrev pub KeptBefore : List ℕ → List ℕ → ℕ → ℕ → Type 0
KeptBefore was now place i = (i < place) × (slice_index was i ≢ slice_index now i)

-- and the same of an item behind the edit, which stood `removed` places on where `count` are new
abbrev pub KeptBehind : List ℕ → List ℕ → ℕ → ℕ → ℕ → ℕ → Type 0
KeptBehind was now place removed count i =
    (place + count ≤ i) × (i < length now) × (slice_index was (i - count + removed) ≢ slice_index now i)

-- with the levels before and after an edit: place i, counted after it, has a new item or another level than before
abbrev pub Changed : List ℕ → List ℕ → ℕ → ℕ → ℕ → ℕ → Type 0
Changed was now place removed count i =
    Given place count i ⊎ (KeptBefore was now place i ⊎ KeptBehind was now place removed count i)

-- the span of the places of which P holds: from the first to behind the last, none if there is none
abbrev pub SpanOf : (ℕ → Type 0) → Option Span → Type 0
SpanOf P None = (i : ℕ) → P i → ⊥
SpanOf P (Some s) = P s.first × P (s.end - 1) × ((i : ℕ) → P i → (s.first ≤ i) × (i < s.end))

-- an edit has one span
abbrev pub SpanIsUnique : Type 0
SpanIsUnique =
    (was now : List ℕ) (place removed count : ℕ) (r s : Option Span) →
    SpanOf (Changed was now place removed count) r → SpanOf (Changed was now place removed count) s → r ≡ s

-- the earlier of two places
abbrev pub earlier : ℕ → ℕ → ℕ
earlier m n = cond (nat_lt n m) n m

-- the later of two places
abbrev pub later : ℕ → ℕ → ℕ
later m n = cond (nat_lt m n) n m

-- the span of the places of both
abbrev pub hull : Option Span → Option Span → Option Span
hull None b = b
hull (Some s) None = Some s
hull (Some s) (Some t) = Some (record { first = earlier s.first t.first; end = later s.end t.end })

-- the span of one place
abbrev pub point : ℕ → Option Span
point i = Some (record { first = i; end = i + 1 })

-- the span of the places below n at which a test holds
abbrev pub span_below : (ℕ → Bool) → ℕ → Option Span
span_below test zero = None
span_below test (suc n) = cond (test n) (hull (point n) (span_below test n)) (span_below test n)

-- `Changed` as a test of a place that is there
abbrev pub is_changed : List ℕ → List ℕ → ℕ → ℕ → ℕ → ℕ → Bool
is_changed was now place removed count i =
    cond (nat_lt i place) (not (slice_index was i == slice_index now i))
    (cond (nat_lt i (place + count)) true (not (slice_index was (i - count + removed) == slice_index now i)))

-- the span of an edit, from the levels before and after it
abbrev pub changed_span : List ℕ → List ℕ → ℕ → ℕ → ℕ → Option Span
changed_span was now place removed count = span_below (is_changed was now place removed count) (length now)

-- the first of the places of which P holds
abbrev pub FirstOf : (ℕ → Type 0) → Option ℕ → Type 0
FirstOf P None = (i : ℕ) → P i → ⊥
FirstOf P (Some i) = P i × ((k : ℕ) → P k → i ≤ k)

-- the last of them
abbrev pub LastOf : (ℕ → Type 0) → Option ℕ → Type 0
LastOf P None = (i : ℕ) → P i → ⊥
LastOf P (Some i) = P i × ((k : ℕ) → P k → k ≤ i)
