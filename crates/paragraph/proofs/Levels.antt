-- What a change does to the rules' levels is what its edges and the items after it tell.
use Rattle.std.proofs.Common.{◌≡◌, ℕ, ◌+◌, ◌<◌, ◌≤◌, List, length, get_or, Option, sym, ap, ◌∙◌, subst, ⊎_elim, arith}
use Rattle.std.proofs.ByRecursion.{All-get_or}
use Rattle.std.proofs.lemmas.List.{get_or_past}
use Rattle.std.proofs.lemmas.Bool.{cases_lt}
use Rattle.tree.specs.Plain.{spliced}
use Rattle.rules.specs.Contexts.{start, end}
use Rattle.rules.specs.Rules.{levels}
use Rattle.rules.specs.declared.classes.Class.{Class}
use Rattle.rules.specs.declared.classes.Direction.{Direction}
use Rattle.rules.specs.declared.classes.Side.{Side}
use Rattle.rules.proofs.ByContexts.{levels_by_contexts, levels_are_low_lem}
use Rattle.bidi.specs.Items.{classes}
use Rattle.bidi.specs.Resolving.{base_of, levels_of}
use Rattle.bidi.specs.declared.item.Item.{Item}
use Rattle.paragraph.specs.Edges.{edges, ChangedBy}
use Rattle.paragraph.specs.Spans.{Changed, SpanOf}
use Rattle.paragraph.specs.Steps.{level_in}
use Rattle.paragraph.specs.declared.span.Edges.{Edges}
use Rattle.paragraph.specs.declared.span.Span.{Span}
use Rattle.paragraph.proofs.Bridge.{by_place, span_by_any}
use Rattle.paragraph.proofs.Stretched.{length-classes, map-spliced}

-- the rules' level at a place is that of the contexts there
pub level_by_place : (b : Side) (cs : List Class) (k : ℕ) → k < length cs → get_or (levels b cs) k 0 ≡ level_in b (start b) (end b) cs k
level_by_place b = by_place b (levels b) (levels_by_contexts b)

module _ (d d' : Direction) (xs new ys : List Item) (place removed : ℕ) (h : place + removed ≤ length xs) (is : ys ≡ spliced xs place (place + removed) new) where
  pub span_of_change : (e f : Edges) → e ≡ edges (base_of d xs) (classes xs) place (place + removed) → f ≡ edges (base_of d' ys) (classes ys) place (place + length new) → (r : Option Span) → SpanOf (ChangedBy e f (classes ys) place (length new)) r → SpanOf (Changed (levels_of d xs) (levels_of d' ys) place removed (length new)) r
  span_of_change e f p q r s =
      let n = length-classes new in
      let x = length-classes xs in
      let same : classes ys ≡ spliced (classes xs) place (place + removed) (classes new) = ap classes is ∙ map-spliced (λ i. i.class) xs new place (place + removed) in
      subst (λ c. SpanOf (Changed (levels_of d xs) (levels_of d' ys) place removed c) r) n
      (span_by_any (base_of d xs) (base_of d' ys) (classes xs) place removed (classes new) (classes ys) (omega arith) same (levels_of d xs) (levels_of d' ys)
      (level_by_place (base_of d xs) (classes xs)) (level_by_place (base_of d' ys) (classes ys)) (levels_are_low_lem (base_of d' ys) (classes ys)).0
      e f p (q ∙ ap (λ c. edges (base_of d' ys) (classes ys) place (place + c)) (sym n)) r
      (subst (λ c. SpanOf (ChangedBy e f (classes ys) place c) r) (sym n) s))

-- there is a level for each item
pub length-levels : (d : Direction) (items : List Item) → length (levels_of d items) ≡ length items
length-levels d items = (levels_are_low_lem (base_of d items) (classes items)).0 ∙ length-classes items

-- and none is above 2
pub level_low : (d : Direction) (items : List Item) (k : ℕ) → get_or (levels_of d items) k 0 ≤ 2
level_low d items k =
    let b = base_of d items in
    let cs = classes items in
    ⊎_elim (λ (h : k < length (levels b cs)). All-get_or (λ l. l ≤ 2) (levels b cs) k 0 h (levels_are_low_lem b cs).1) (λ (h : length (levels b cs) ≤ k). let z = get_or_past (levels b cs) k 0 h in omega arith) (cases_lt k (length (levels b cs)))
