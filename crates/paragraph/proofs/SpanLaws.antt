-- Laws of spans, for any places.
use Rattle.std.proofs.Common.{◌≡◌, ℕ, ◌-◌, ◌<◌, ◌≤◌, Bool, true, false, cond, ltb, ◌⊎◌, Some, None, Option, sym, refl, subst, ap₂, inl, inr, ⊎_elim, arith, ltb-false, ltb-true}
use Rattle.std.specs.Option.{MatchOption}
use Rattle.std.proofs.lemmas.Bool.{cases_lt}
use Rattle.paragraph.specs.declared.span.Span.{Span}
use Rattle.paragraph.specs.Spans.{SpanOf, FirstOf, earlier, later, hull, point}

pub span_is_unique : (P : ℕ → Type 0) (r s : Option Span) → SpanOf P r → SpanOf P s → r ≡ s
span_is_unique P None None h k = refl
span_is_unique P None (Some t) h k = absurd (h t.first k.0)
span_is_unique P (Some s) None h k = absurd (k s.first h.0)
span_is_unique P (Some s) (Some t) h k =
    let a = h.2 t.first k.0 in
    let b = h.2 (t.end - 1) k.1 in
    let c = k.2 s.first h.0 in
    let d = k.2 (s.end - 1) h.1 in
    let p : s.first ≡ t.first = omega arith in
    let q : s.end ≡ t.end = omega arith in
    ap₂ (λ (m n : ℕ). Some (record { first = m; end = n })) p q

-- the same places have the same span
pub same_places : (P Q : ℕ → Type 0) (r : Option Span) → ((i : ℕ) → P i → Q i) → ((i : ℕ) → Q i → P i) → SpanOf P r → SpanOf Q r
same_places P Q None f g h = λ i q. h i (g i q)
same_places P Q (Some s) f g h = (f _ h.0, f _ h.1, λ i q. h.2 i (g i q))

pick : (P Q : ℕ → Type 0) (v : Bool) (m n : ℕ) → P m → Q n → (P (cond v n m)) ⊎ (Q (cond v n m))
pick P Q true m n p q = inr q
pick P Q false m n p q = inl p

earlier_le : (m n : ℕ) → (earlier m n ≤ m) × (earlier m n ≤ n)
earlier_le m n = go (ltb n m) refl
  where
    go : (v : Bool) → ltb n m ≡ v → (cond v n m ≤ m) × (cond v n m ≤ n)
    go true e = (omega (arith, ltb-true), omega (arith, ltb-true))
    go false e = (omega (arith, ltb-false), omega (arith, ltb-false))

later_le : (m n : ℕ) → (m ≤ later m n) × (n ≤ later m n)
later_le m n = go (ltb m n) refl
  where
    go : (v : Bool) → ltb m n ≡ v → (m ≤ cond v n m) × (n ≤ cond v n m)
    go true e = (omega (arith, ltb-true), omega (arith, ltb-true))
    go false e = (omega (arith, ltb-false), omega (arith, ltb-false))

pub hull_span : (P Q : ℕ → Type 0) (a b : Option Span) → SpanOf P a → SpanOf Q b → SpanOf (λ i. P i ⊎ Q i) (hull a b)
hull_span P Q None None h k = λ i u. ⊎_elim (λ p. h i p) (λ q. k i q) u
hull_span P Q None (Some t) h k = (inr k.0, inr k.1, λ i u. ⊎_elim (λ p. absurd (h i p)) (λ q. k.2 i q) u)
hull_span P Q (Some s) None h k = (inl h.0, inl h.1, λ i u. ⊎_elim (λ p. h.2 i p) (λ q. absurd (k i q)) u)
hull_span P Q (Some s) (Some t) h k =
    let e = earlier_le s.first t.first in
    let l = later_le s.end t.end in (
      pick P Q (ltb t.first s.first) s.first t.first h.0 k.0,
      pick (λ n. P (n - 1)) (λ n. Q (n - 1)) (ltb s.end t.end) s.end t.end h.1 k.1,
      λ i u. ⊎_elim
          (λ p. let x = h.2 i p in (omega arith, omega arith))
          (λ q. let x = k.2 i q in (omega arith, omega arith)) u,
    )

pub point_span : (i : ℕ) → SpanOf (λ k. k ≡ i) (point i)
point_span i = (refl, omega arith, λ k e. (omega arith, omega arith))

-- a place i is looked at beside those of D, and P holds there or not
module _ (D D' P : ℕ → Type 0) (i : ℕ) (r : Option Span) (back : (k : ℕ) → D' k → (k ≡ i) ⊎ D k) (on : (k : ℕ) → D k → D' k) (here : D' i) where
  pub one_more : P i → SpanOf (λ k. D k × P k) r → SpanOf (λ k. D' k × P k) (hull (point i) r)
  one_more p h =
      same_places (λ k. (k ≡ i) ⊎ (D k × P k)) (λ k. D' k × P k) (hull (point i) r)
      (λ k u. ⊎_elim (λ e. subst (λ k. D' k × P k) (sym e) (here, p)) (λ q. (on k q.0, q.1)) u)
      (λ k q. ⊎_elim (λ e. inl e) (λ d. inr (d, q.1)) (back k q.0))
      (hull_span (λ k. k ≡ i) (λ k. D k × P k) (point i) r (point_span i) h)

  pub none_more : (P i → ⊥) → SpanOf (λ k. D k × P k) r → SpanOf (λ k. D' k × P k) r
  none_more n h =
      same_places (λ k. D k × P k) (λ k. D' k × P k) r
      (λ k q. (on k q.0, q.1))
      (λ k q. ⊎_elim (λ e. absurd (n (subst P e q.1))) (λ d. (d, q.1)) (back k q.0)) h

-- what was not looked at has no place of P
pub looked : (D P : ℕ → Type 0) (r : Option Span) → ((k : ℕ) → P k → D k) → SpanOf (λ k. D k × P k) r → SpanOf P r
looked D P r d h = same_places (λ k. D k × P k) P r (λ k q. q.1) (λ k p. (d k p, p)) h

-- the first of the places below n that a search from the front found, where P holds of none beyond
pub first_found : (P : ℕ → Type 0) (n : ℕ) (r : Option ℕ) → ((k : ℕ) → P k → k < n)
    → MatchOption r ((k : ℕ) → 0 ≤ k → k < n → P k → ⊥) (λ i. (0 ≤ i) × (i < n) × P i × ((k : ℕ) → 0 ≤ k → k < i → P k → ⊥)) → FirstOf P r
first_found P n None below h = λ k p. h k (omega arith) (below k p) p
first_found P n (Some i) below h = (h.2, λ k p. ⊎_elim (λ (l : k < i). absurd (h.3 k (omega arith) l p)) (λ l. l) (cases_lt k i))
