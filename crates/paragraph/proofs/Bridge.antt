-- What an edit changes is what its edges and the items after it tell.
use Rattle.std.proofs.Common.{◌≡◌, ℕ, ◌+◌, ◌-◌, ◌<◌, ◌≤◌, List, ◌∷◌, ◌++◌, length, get_or, take, drop, Option, sym, ap, ◌∙◌, subst, ap₂, inl, inr, ⊎_elim, arith}
use Rattle.std.proofs.lemmas.List.{append_assoc, length-append, length-take-le, length-drop, take_at, drop_at, take-append-drop, drop_more}
use Rattle.paragraph.specs.declared.span.Span.{Span}
use Rattle.rules.specs.Contexts.{level_at, start, end}
use Rattle.rules.specs.declared.classes.Class.{Class}
use Rattle.rules.specs.declared.classes.Side.{Side}
use Rattle.paragraph.specs.declared.span.Edges.{Edges}
use Rattle.paragraph.specs.Steps.{none, left, right, level_in}
use Rattle.tree.specs.Plain.{spliced}
use Rattle.paragraph.specs.Spans.{Changed, SpanOf}
use Rattle.paragraph.specs.Edges.{edges, ChangedBy}
use Rattle.paragraph.proofs.SpanLaws.{same_places}
use Rattle.paragraph.proofs.Walks.{in_front, in_rest}

module _ (xs : List Class) (place removed : ℕ) (fresh : List Class) (h : place + removed ≤ length xs) where
  front_length : length (take place xs) ≡ place
  front_length = length-take-le place xs (omega arith)

  abbrev ys : List Class
  ys = spliced xs place (place + removed) fresh

  pub length-edited : length ys ≡ place + length fresh + (length xs - (place + removed))
  length-edited =
      length-append (take place xs) (fresh ++ drop (place + removed) xs)
      ∙ ap₂ (λ (m n : ℕ). m + n) front_length (length-append fresh (drop (place + removed) xs) ∙ ap (λ (n : ℕ). length fresh + n) (length-drop (place + removed) xs))
      ∙ regroup place (length fresh) (length xs - (place + removed))
    where
      regroup : (a b c : ℕ) → a + (b + c) ≡ a + b + c
      regroup a b c = omega arith

  pub same_front : take place ys ≡ take place xs
  same_front = take_at (take place xs) (fresh ++ drop (place + removed) xs) place front_length

  pub same_rest : drop (place + length fresh) ys ≡ drop (place + removed) xs
  same_rest =
      ap (drop (place + length fresh)) (sym (append_assoc (take place xs) fresh (drop (place + removed) xs)))
      ∙ drop_at (take place xs ++ fresh) (drop (place + removed) xs) (place + length fresh) (length-append (take place xs) fresh ∙ ap (λ (n : ℕ). n + length fresh) front_length)

-- levels that are by context at every split of the items are so at every place
pub by_place : (b : Side) (levels_of : List Class → List ℕ) → ((us : List Class) (c : Class) (vs : List Class) → get_or (levels_of (us ++ (c ∷ vs))) (length us) 0 ≡ level_at b (left (start b) us) c (right (end b) vs)) → (xs : List Class) (k : ℕ) → k < length xs → get_or (levels_of xs) k 0 ≡ level_in b (start b) (end b) xs k
by_place b levels_of at xs k h =
    let x = get_or xs k none in
    let split : xs ≡ take k xs ++ (x ∷ drop (k + 1) xs) = sym (take-append-drop k xs) ∙ ap (λ zs. take k xs ++ zs) (drop_more xs k none h) in
    let long : length (take k xs) ≡ k = length-take-le k xs (omega arith) in
    ap₂ (λ zs (n : ℕ). get_or (levels_of zs) n 0) split (sym long) ∙ at (take k xs) x (drop (k + 1) xs)

-- an edit of xs to ys, under base directions b and b', with any levels ls and ls' that are those by context
module _ (b b' : Side) (xs : List Class) (place removed : ℕ) (fresh ys : List Class) (h : place + removed ≤ length xs) (is : ys ≡ spliced xs place (place + removed) fresh) (ls ls' : List ℕ) (at_was : (k : ℕ) → k < length xs → get_or ls k 0 ≡ level_in b (start b) (end b) xs k) (at_now : (k : ℕ) → k < length ys → get_or ls' k 0 ≡ level_in b' (start b') (end b') ys k) (levels_long : length ls' ≡ length ys) where
  abbrev count : ℕ
  count = length fresh

  abbrev was : Edges
  was = edges b xs place (place + removed)

  abbrev now : Edges
  now = edges b' ys place (place + count)

  long : length ys ≡ place + count + (length xs - (place + removed))
  long = ap length is ∙ length-edited xs place removed fresh h

  front : take place ys ≡ take place xs
  front = ap (take place) is ∙ same_front xs place removed fresh h

  rest : drop (place + count) ys ≡ drop (place + removed) xs
  rest = ap (drop (place + count)) is ∙ same_rest xs place removed fresh h

  level_was : (i : ℕ) → i < place → get_or ls i 0 ≡ level_in b (start b) was.right (take place ys) i
  level_was i k =
      at_was i (omega arith)
      ∙ in_front b (start b) (end b) xs place i k
      ∙ ap (λ (zs : List Class). level_in b (start b) was.right zs i) (sym front)

  level_now : (i : ℕ) → i < place → get_or ls' i 0 ≡ level_in b' (start b') now.right (take place ys) i
  level_now i k =
      at_now i (omega (arith, long))
      ∙ in_front b' (start b') (end b') ys place i k

  rest_was : (k : ℕ) → place + removed + k < length xs → get_or ls (place + removed + k) 0 ≡ level_in b was.left (end b) (drop (place + count) ys) k
  rest_was k j =
      at_was (place + removed + k) j
      ∙ in_rest b (start b) (end b) xs (place + removed) k
      ∙ ap (λ (zs : List Class). level_in b was.left (end b) zs k) (sym rest)

  rest_now : (k : ℕ) → place + count + k < length ys → get_or ls' (place + count + k) 0 ≡ level_in b' now.left (end b') (drop (place + count) ys) k
  rest_now k j =
      at_now (place + count + k) j
      ∙ in_rest b' (start b') (end b') ys (place + count) k

  front_long : length (take place ys) ≡ place
  front_long = length-take-le place ys (omega (arith, long))

  behind_now : (i : ℕ) → place + count ≤ i → i < length ys → get_or ls' i 0 ≡ level_in b' now.left (end b') (drop (place + count) ys) (i - (place + count))
  behind_now i c d =
      let e : i ≡ place + count + (i - (place + count)) = omega arith in
      ap (λ (n : ℕ). get_or ls' n 0) e ∙ rest_now (i - (place + count)) (omega arith)

  behind_was : (i : ℕ) → place + count ≤ i → i < length ys → get_or ls (i - count + removed) 0 ≡ level_in b was.left (end b) (drop (place + count) ys) (i - (place + count))
  behind_was i c d =
      let e : i - count + removed ≡ place + removed + (i - (place + count)) = omega arith in
      ap (λ (n : ℕ). get_or ls n 0) e ∙ rest_was (i - (place + count)) (omega (arith, long))

  pub told : (i : ℕ) → Changed ls ls' place removed count i → ChangedBy was now ys place count i
  told i u =
      ⊎_elim (λ g. inl g)
      (λ v. inr (⊎_elim
      (λ p. inl (omega (arith, front_long, p.0), λ e. p.1 (level_was i p.0 ∙ e ∙ sym (level_now i p.0))))
      (λ q. let j : i < length ys = omega (arith, levels_long, q.1) in
      inr (q.0, (omega (arith, length-drop (place + count) ys, q.0), λ e. q.2 (behind_was i q.0 j ∙ e ∙ sym (behind_now i q.0 j)))))
      v)) u

  pub tells : (i : ℕ) → ChangedBy was now ys place count i → Changed ls ls' place removed count i
  tells i u =
      ⊎_elim (λ g. inl g)
      (λ v. inr (⊎_elim
      (λ p. let j : i < place = omega (arith, front_long, p.0) in
      inl (j, λ e. p.1 (sym (level_was i j) ∙ e ∙ level_now i j)))
      (λ q. let j : i < length ys = omega (arith, length-drop (place + count) ys, q.0, q.1.0) in
      inr (q.0, omega (arith, levels_long), λ e. q.1.1 (sym (behind_was i q.0 j) ∙ e ∙ behind_now i q.0 j)))
      v)) u

  pub span_by_edges : (r : Option Span) → SpanOf (ChangedBy was now ys place count) r → SpanOf (Changed ls ls' place removed count) r
  span_by_edges r s = same_places (ChangedBy was now ys place count) (Changed ls ls' place removed count) r tells told s

  pub span_by_any : (e f : Edges) → e ≡ was → f ≡ now → (r : Option Span) → SpanOf (ChangedBy e f ys place count) r → SpanOf (Changed ls ls' place removed count) r
  span_by_any e f p q r s =
      span_by_edges r (subst (λ (e : Edges). SpanOf (ChangedBy e now ys place count) r) p (subst (λ (g : Edges). SpanOf (ChangedBy e g ys place count) r) q s))
