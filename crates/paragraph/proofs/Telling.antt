-- What is told of a change is the one outcome that the levels before and after it have.
use Rattle.std.proofs.Common.{◌≡◌, ℕ, zero, suc, ◌+◌, ◌-◌, ◌<◌, ◌≤◌, Bool, true, false, cond, not, eqb, ltb, ◌⊎◌, List, length, get_or, Ok, Err, Decides, Option, sym, refl, ap, ◌∙◌, subst, inl, inr, ⊎_elim, true≢false, arith}
use Rattle.std.proofs.lemmas.Bool.{cases_lt, lt-ltb, le-ltb, cond-true, cond-false}
use Rattle.std.proofs.lemmas.Bool.Decides.{Decides-eqb, Decides-not, Decides-like}
use Rattle.rules.specs.Rules.{base_level}
use Rattle.rules.specs.declared.classes.Direction.{Direction}
use Rattle.bidi.specs.Resolving.{base_of, levels_of}
use Rattle.bidi.specs.declared.item.Item.{Item}
use Rattle.paragraph.specs.Faults.{Refusal}
use Rattle.paragraph.specs.Outcomes.{change_told, granted, edit_told}
use Rattle.paragraph.specs.Plain.{Plain, levels_of_plain, edit_answer, after_edit, edited}
use Rattle.paragraph.specs.Spans.{Changed, SpanOf, hull, point, span_below, is_changed, changed_span}
use Rattle.paragraph.specs.declared.outcome.Outcome.{Outcome}
use Rattle.paragraph.specs.declared.span.Span.{Span}
use Rattle.paragraph.proofs.Levels.{length-levels}
use Rattle.paragraph.proofs.SpanLaws.{span_is_unique, same_places, one_more, none_more}

module _ (test : ℕ → Bool) where
  abbrev Below : ℕ → ℕ → Type 0
  Below n k = (k < n) × (test k ≡ true)

  on : (n k : ℕ) → k < n → k < suc n
  on n k h = omega arith

  back : (n k : ℕ) → k < suc n → (k ≡ n) ⊎ (k < n)
  back n k h = ⊎_elim (λ (l : k < n). inr l) (λ (l : n ≤ k). inl (omega arith)) (cases_lt k n)

  -- one place more is tested
  next : (n : ℕ) (b : Bool) → test n ≡ b → (r : Option Span) → SpanOf (Below n) r → SpanOf (Below (suc n)) (cond b (hull (point n) r) r)
  next n true e r h = one_more (λ k. k < n) (λ k. k < suc n) (λ k. test k ≡ true) n r (back n) (on n) (omega arith) e h
  next n false e r h = none_more (λ k. k < n) (λ k. k < suc n) (λ k. test k ≡ true) n r (back n) (on n) (omega arith) (λ t. true≢false (sym t ∙ e)) h

  pub span_of_test : (n : ℕ) → SpanOf (Below n) (span_below test n)
  span_of_test zero = λ i h. absurd (none i h.0)
    where
      none : (i : ℕ) → i < zero → ⊥
      none i h = omega arith
  span_of_test (suc n) = next n (test n) refl (span_below test n) (span_of_test n)

module _ (was is : List ℕ) (place removed count : ℕ) where
  abbrev At : ℕ → Type 0
  At i = Changed was is place removed count i

  no_given : (i : ℕ) → i < place → place ≤ i → ⊥
  no_given i h k = omega arith

  before : (i : ℕ) → i < place → Decides (not (eqb (get_or was i 0) (get_or is i 0))) (At i)
  before i h =
      Decides-like (not (eqb (get_or was i 0) (get_or is i 0)))
      (λ (o : get_or was i 0 ≡ get_or is i 0 → ⊥). inr (inl (h, o)))
      (λ (u : At i). ⊎_elim (λ g. absurd (no_given i h g.0)) (λ v. ⊎_elim (λ o. o.1) (λ o. absurd (far o.0)) v) u)
      (Decides-not (eqb (get_or was i 0) (get_or is i 0)) (Decides-eqb (get_or was i 0) (get_or is i 0)))
    where
      far : place + count ≤ i → ⊥
      far a = omega arith

  behind : (i : ℕ) → place + count ≤ i → i < length is → Decides (not (eqb (get_or was (i - count + removed) 0) (get_or is i 0))) (At i)
  behind i h l =
      Decides-like (not (eqb (get_or was (i - count + removed) 0) (get_or is i 0)))
      (λ (o : get_or was (i - count + removed) 0 ≡ get_or is i 0 → ⊥). inr (inr (h, l, o)))
      (λ (u : At i). ⊎_elim (λ g. absurd (no g.1)) (λ v. ⊎_elim (λ o. absurd (near o.0)) (λ o. o.2) v) u)
      (Decides-not (eqb (get_or was (i - count + removed) 0) (get_or is i 0)) (Decides-eqb (get_or was (i - count + removed) 0) (get_or is i 0)))
    where
      no : i < place + count → ⊥
      no a = omega arith

      near : i < place → ⊥
      near a = omega arith

  -- the test holds just at the changed places
  decides : (i : ℕ) → i < length is → Decides (is_changed was is place removed count i) (At i)
  decides i l =
      ⊎_elim
      (λ (h : i < place). subst (λ b. Decides b (At i)) (sym (cond-true (ltb i place) _ _ (lt-ltb i place h))) (before i h))
      (λ (h : place ≤ i). subst (λ b. Decides b (At i)) (sym (cond-false (ltb i place) _ _ (le-ltb i place h)))
      (⊎_elim
      (λ (k : i < place + count). subst (λ b. Decides b (At i)) (sym (cond-true (ltb i (place + count)) _ _ (lt-ltb i (place + count) k))) (λ _. inl (h, k), λ _. refl))
      (λ (k : place + count ≤ i). subst (λ b. Decides b (At i)) (sym (cond-false (ltb i (place + count)) _ _ (le-ltb i (place + count) k))) (behind i k l))
      (cases_lt i (place + count))))
      (cases_lt i place)

  -- a changed place is there
  there : place + count ≤ length is → (i : ℕ) → At i → i < length is
  there h i u = ⊎_elim (λ g. omega (arith, g.1)) (λ v. ⊎_elim (λ o. omega (arith, o.0)) (λ o. o.1) v) u

  pub changed_span_of : place + count ≤ length is → SpanOf (Changed was is place removed count) (changed_span was is place removed count)
  changed_span_of h =
      same_places _ _ (changed_span was is place removed count)
      (λ i q. (decides i q.0).0 q.1)
      (λ i u. let l = there h i u in (l, (decides i l).1 u))
      (span_of_test (is_changed was is place removed count) (length is))

-- an outcome with this number of items, base level and span is the one that is told
pub outcome_told : (was : Plain) (d : Direction) (ys : List Item) (place removed count : ℕ) (o : Outcome) → place + count ≤ length ys →
    o.count ≡ length ys → o.base ≡ base_level (base_of d ys) → SpanOf (Changed (levels_of_plain was) (levels_of d ys) place removed count) o.span →
    o ≡ change_told was (record { direction = d; items = ys }) place removed count
outcome_told was d ys place removed count o h n b told =
    let long = length-levels d ys in
    let span = span_is_unique _ o.span (changed_span (levels_of_plain was) (levels_of d ys) place removed count) told (changed_span_of (levels_of_plain was) (levels_of d ys) place removed count (omega arith)) in
    λ t. record { count = n t; base = b t; span = span t }

module _ (room : ℕ) (p : Plain) (place removed : ℕ) (new : List Item) where
  pub told_refused : (r : Refusal) → Err r ≡ edit_answer room p.items place removed new → Err r ≡ edit_told room p place removed new
  told_refused r e = ap (λ q. granted q (change_told p (edited room p place removed new) place removed (length new))) e

  pub told_done : (o : Outcome) (ys : List Item) → Ok tt ≡ edit_answer room p.items place removed new → ys ≡ after_edit room p.items place removed new →
      o ≡ change_told p (record { direction = p.direction; items = ys }) place removed (length new) → Ok o ≡ edit_told room p place removed new
  told_done o ys e is told =
      ap Ok (told ∙ ap (λ xs. change_told p (record { direction = p.direction; items = xs }) place removed (length new)) is)
      ∙ ap (λ q. granted q (change_told p (edited room p place removed new) place removed (length new))) e
