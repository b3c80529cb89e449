-- The walk to the left of an edit, with what it keeps.
use Rattle.std.proofs.Common.{◌≡◌, ℕ, ◌+◌, ◌<◌, ◌≤◌, ◌⊎◌, List, length, get_or, take, drop, Option, sym, ap, ◌∙◌, subst, inl, inr, ⊎_elim, arith}
use Rattle.std.proofs.lemmas.Bool.{cases_order}
use Rattle.paragraph.specs.declared.span.Span.{Span}
use Rattle.rules.specs.Contexts.{before, level_at}
use Rattle.rules.specs.declared.classes.Class.{Class}
use Rattle.rules.specs.declared.classes.Side.{Side}
use Rattle.rules.specs.declared.contexts.Left.{Left}
use Rattle.rules.specs.declared.contexts.Right.{Right}
use Rattle.paragraph.specs.Steps.{none, left, right, level_in}
use Rattle.paragraph.specs.Spans.{SpanOf, hull, point}
use Rattle.paragraph.specs.Edges.{Other}
use Rattle.paragraph.proofs.SpanLaws.{one_more, none_more, looked}
use Rattle.paragraph.proofs.Walks.{right_more, none_below}

-- to the left, from right contexts r and r' behind the items: what was seen from place i on
pub record Leftward (b : Side) (l : Left) (r r' : Right) (xs : List Class) (i : ℕ) (old new : Right) (found : Option Span) : Type 0 where
  pub within : i ≤ length xs
  pub old_is : old ≡ right r (drop i xs)
  pub new_is : new ≡ right r' (drop i xs)
  pub spans : SpanOf (λ k. (i ≤ k) × Other b l r b l r' xs k) found

module _ (b : Side) (l : Left) (r r' : Right) (xs : List Class) where
  abbrev pub LeftOf : ℕ → Right → Right → Option Span → Type 0
  LeftOf = Leftward b l r r' xs

  abbrev P : ℕ → Type 0
  P = Other b l r b l r' xs

  -- one step to the place n: the item there and the context before it, its two levels, and the contexts beyond it
  module _ (i n : ℕ) (old new : Right) (found : Option Span) (w : LeftOf i old new found) (step : i ≡ n + 1) (x : Class) (item : x ≡ get_or xs n none) (c : Left) (context : c ≡ left l (take n xs)) (p p' : ℕ) (level_old : p ≡ level_at b c x old) (level_new : p' ≡ level_at b c x new) (old' new' : Right) (to_old : old' ≡ before x old) (to_new : new' ≡ before x new) (found' : Option Span) where
    back : (k : ℕ) → n ≤ k → (k ≡ n) ⊎ (i ≤ k)
    back k h = ⊎_elim (λ e. inl e) (λ u. ⊎_elim (λ (a : k < n). absurd (no a)) (λ a. inr (omega arith)) u) (cases_order k n)
      where
        no : k < n → ⊥
        no a = omega arith

    here : n < length xs
    here = let a = w.within in omega arith

    old_at : right r (drop i xs) ≡ right r (drop (n + 1) xs)
    old_at = ap (λ (k : ℕ). right r (drop k xs)) step

    new_at : right r' (drop i xs) ≡ right r' (drop (n + 1) xs)
    new_at = ap (λ (k : ℕ). right r' (drop k xs)) step

    old_level : p ≡ level_in b l r xs n
    old_level = level_old ∙ (λ t. level_at b (context t) (item t) ((w.old_is ∙ old_at) t))

    new_level : p' ≡ level_in b l r' xs n
    new_level = level_new ∙ (λ t. level_at b (context t) (item t) ((w.new_is ∙ new_at) t))

    old_on : old' ≡ right r (drop n xs)
    old_on = to_old ∙ (λ t. before (item t) ((w.old_is ∙ old_at) t)) ∙ sym (right_more r xs n here)

    new_on : new' ≡ right r' (drop n xs)
    new_on = to_new ∙ (λ t. before (item t) ((w.new_is ∙ new_at) t)) ∙ sym (right_more r' xs n here)

    pub leftward_other : found' ≡ hull (point n) found → (p ≡ p' → ⊥) → LeftOf n old' new' found'
    leftward_other f o = record {
      within = omega (arith, here);
      old_is = old_on;
      new_is = new_on;
      spans = subst (λ (s : Option Span). SpanOf (λ k. (n ≤ k) × P k) s) (sym f) (one_more (λ k. i ≤ k) (λ k. n ≤ k) P n found back (λ k h. omega arith) (omega arith) (here, λ e. o (old_level ∙ e ∙ sym new_level)) w.spans);
    }

    pub leftward_same : found' ≡ found → p ≡ p' → LeftOf n old' new' found'
    leftward_same f e = record {
      within = omega (arith, here);
      old_is = old_on;
      new_is = new_on;
      spans = subst (λ (s : Option Span). SpanOf (λ k. (n ≤ k) × P k) s) (sym f) (none_more (λ k. i ≤ k) (λ k. n ≤ k) P n found back (λ k h. omega arith) (omega arith) (λ q. q.1 (sym old_level ∙ e ∙ new_level)) w.spans);
    }

  -- the walk is over where the contexts agree
  pub leftward_agree : (i : ℕ) (old new : Right) (found : Option Span) → old ≡ new → LeftOf i old new found → SpanOf P found
  leftward_agree i old new found e w =
      looked (λ k. i ≤ k) P found (none_below b l r r' xs i (sym w.old_is ∙ e ∙ w.new_is)) w.spans
