-- The walk to the right of an edit, with what it keeps.
use Rattle.std.proofs.Common.{◌≡◌, ℕ, ◌+◌, ◌-◌, ◌<◌, ◌≤◌, ◌⊎◌, List, length, get_or, take, drop, Option, sym, ap, ◌∙◌, subst, inl, inr, ⊎_elim, arith}
use Rattle.std.proofs.lemmas.Bool.{cases_order}
use Rattle.paragraph.specs.declared.span.Span.{Span}
use Rattle.rules.specs.Contexts.{after, level_at}
use Rattle.rules.specs.declared.classes.Class.{Class}
use Rattle.rules.specs.declared.classes.Side.{Side}
use Rattle.rules.specs.declared.contexts.Left.{Left}
use Rattle.rules.specs.declared.contexts.Right.{Right}
use Rattle.paragraph.specs.Steps.{none, left, right, level_in}
use Rattle.paragraph.specs.Spans.{SpanOf, hull, point}
use Rattle.paragraph.specs.Edges.{Other, Moved}
use Rattle.paragraph.proofs.SpanLaws.{one_more, none_more, looked}
use Rattle.paragraph.proofs.Walks.{left_more, none_above}

-- to the right, from left contexts l and l' before the items: what was seen up to place j
pub record Rightward (b : Side) (l l' : Left) (r : Right) (xs : List Class) (from j : ℕ) (old new : Left) (found : Option Span) : Type 0 where
  pub low : from ≤ j
  pub within : j ≤ from + length xs
  pub old_is : old ≡ left l (take (j - from) xs)
  pub new_is : new ≡ left l' (take (j - from) xs)
  pub spans : SpanOf (λ i. (i < j) × Moved from (Other b l r b l' r xs) i) found

module _ (b : Side) (l l' : Left) (r : Right) (xs : List Class) (from : ℕ) where
  abbrev pub RightOf : ℕ → Left → Left → Option Span → Type 0
  RightOf = Rightward b l l' r xs from

  abbrev Q : ℕ → Type 0
  Q = Moved from (Other b l r b l' r xs)

  -- one step from the place j: the item there and the context behind it, its two levels, and the contexts beyond it
  module _ (j : ℕ) (old new : Left) (found : Option Span) (w : RightOf j old new found) (here : j < from + length xs) (x : Class) (item : x ≡ get_or xs (j - from) none) (c : Right) (context : c ≡ right r (drop (j - from + 1) xs)) (p p' : ℕ) (level_old : p ≡ level_at b old x c) (level_new : p' ≡ level_at b new x c) (old' new' : Left) (to_old : old' ≡ after old x) (to_new : new' ≡ after new x) (found' : Option Span) where
    back : (k : ℕ) → k < j + 1 → (k ≡ j) ⊎ (k < j)
    back k h = ⊎_elim (λ e. inl e) (λ u. ⊎_elim (λ (a : k < j). inr a) (λ (a : j < k). absurd (no a)) u) (cases_order k j)
      where
        no : j < k → ⊥
        no a = omega arith

    within : j - from < length xs
    within = let a = w.low in omega arith

    step : j - from + 1 ≡ j + 1 - from
    step = let a = w.low in omega arith

    old_level : p ≡ level_in b l r xs (j - from)
    old_level = level_old ∙ (λ t. level_at b (w.old_is t) (item t) (context t))

    new_level : p' ≡ level_in b l' r xs (j - from)
    new_level = level_new ∙ (λ t. level_at b (w.new_is t) (item t) (context t))

    old_on : old' ≡ left l (take (j + 1 - from) xs)
    old_on = to_old ∙ (λ t. after (w.old_is t) (item t)) ∙ sym (left_more l xs (j - from) within) ∙ ap (λ (k : ℕ). left l (take k xs)) step

    new_on : new' ≡ left l' (take (j + 1 - from) xs)
    new_on = to_new ∙ (λ t. after (w.new_is t) (item t)) ∙ sym (left_more l' xs (j - from) within) ∙ ap (λ (k : ℕ). left l' (take k xs)) step

    pub rightward_other : found' ≡ hull (point j) found → (p ≡ p' → ⊥) → RightOf (j + 1) old' new' found'
    rightward_other f o = record {
      low = let a = w.low in omega arith;
      within = omega arith;
      old_is = old_on;
      new_is = new_on;
      spans = subst (λ (s : Option Span). SpanOf (λ k. (k < j + 1) × Q k) s) (sym f) (one_more (λ k. k < j) (λ k. k < j + 1) Q j found back (λ k h. omega arith) (omega arith) (w.low, (within, λ e. o (old_level ∙ e ∙ sym new_level))) w.spans);
    }

    pub rightward_same : found' ≡ found → p ≡ p' → RightOf (j + 1) old' new' found'
    rightward_same f e = record {
      low = let a = w.low in omega arith;
      within = omega arith;
      old_is = old_on;
      new_is = new_on;
      spans = subst (λ (s : Option Span). SpanOf (λ k. (k < j + 1) × Q k) s) (sym f) (none_more (λ k. k < j) (λ k. k < j + 1) Q j found back (λ k h. omega arith) (omega arith) (λ q. q.1.1 (sym old_level ∙ e ∙ new_level)) w.spans);
    }

  -- the walk is over at the end, or where the contexts agree
  pub rightward_end : (j : ℕ) (old new : Left) (found : Option Span) → from + length xs ≤ j → RightOf j old new found → SpanOf Q found
  rightward_end j old new found z w = looked (λ k. k < j) Q found (λ k q. below k q.0 q.1.0) w.spans
    where
      below : (k : ℕ) → from ≤ k → k - from < length xs → k < j
      below k u v = omega arith

  pub rightward_agree : (j : ℕ) (old new : Left) (found : Option Span) → old ≡ new → RightOf j old new found → SpanOf Q found
  rightward_agree j old new found e w =
      looked (λ k. k < j) Q found
      (λ k q. below k (none_above b l l' r xs (j - from) (sym w.old_is ∙ e ∙ w.new_is) (k - from) q.1) q.0)
      w.spans
    where
      below : (k : ℕ) → k - from < j - from → from ≤ k → k < j
      below k u v = omega arith
