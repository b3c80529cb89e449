-- Whether one place changed, from its item and the contexts beside it.
use Rattle.std.proofs.Common.{◌≡◌, ℕ, ◌+◌, ◌-◌, ◌<◌, ◌≤◌, true, not, eqb, List, length, get_or, take, drop, Decides, sym, refl, ap, ◌∙◌, inl, inr, ⊎_elim, arith}
use Rattle.std.proofs.lemmas.Bool.Decides.{Decides-eqb, Decides-not, Decides-like}
use Rattle.std.proofs.lemmas.List.{length-take-le, length-drop, get_or-take, get_or-drop, take-take, drop-drop, drop-take}
use Rattle.rules.specs.Contexts.{level_at, start, end}
use Rattle.rules.specs.declared.classes.Class.{Class}
use Rattle.rules.specs.declared.classes.Side.{Side}
use Rattle.rules.specs.declared.contexts.Left.{Left}
use Rattle.rules.specs.declared.contexts.Right.{Right}
use Rattle.paragraph.specs.declared.span.Edges.{Edges}
use Rattle.paragraph.specs.Steps.{none, left, right, level_in}
use Rattle.paragraph.specs.Edges.{ChangedBy, IsChanged}
use Rattle.paragraph.specs.Paragraphs.{items_of}
use Rattle.paragraph.specs.declared.change.Change.{Change}
use Rattle.bidi.specs.Items.{classes}
use Rattle.paragraph.proofs.Stretched.{length-classes}

module _ (e f : Edges) (xs : List Class) (place count i : ℕ) where
  abbrev pub At : Type 0
  At = ChangedBy e f xs place count i

  within : place + count ≤ length xs → At → i < length xs
  within h u =
      ⊎_elim (λ g. omega (arith, g.1))
      (λ v. ⊎_elim
      (λ o. omega (arith, o.0, length-take-le place xs (omega arith)))
      (λ o. omega (arith, o.0, o.1.0, length-drop (place + count) xs)) v) u

  -- p and q are the levels that the two edges gave the item
  pub decides_before : i < place → place ≤ length xs → (p q : ℕ) →
      p ≡ level_in e.base (start e.base) e.right (take place xs) i → q ≡ level_in f.base (start f.base) f.right (take place xs) i → Decides (not (eqb p q)) At
  decides_before h k p q was is =
      let long = length-take-le place xs k in
      Decides-like (not (eqb p q))
      (λ (o : p ≡ q → ⊥). inr (inl (omega (arith, long), λ d. o (was ∙ d ∙ sym is))))
      (λ (u : At). ⊎_elim (λ g. absurd (no g.0)) (λ v. ⊎_elim (λ o d. o.1 (sym was ∙ d ∙ is)) (λ o. absurd (far o.0)) v) u)
      (Decides-not (eqb p q) (Decides-eqb p q))
    where
      no : place ≤ i → ⊥
      no a = omega arith

      far : place + count ≤ i → ⊥
      far a = omega arith

  pub decides_given : place ≤ i → i < place + count → Decides true At
  decides_given h k = (λ _. inl (h, k), λ _. refl)

  pub decides_behind : place + count ≤ i → i < length xs → (p q : ℕ) →
      p ≡ level_in e.base e.left (end e.base) (drop (place + count) xs) (i - (place + count)) → q ≡ level_in f.base f.left (end f.base) (drop (place + count) xs) (i - (place + count)) → Decides (not (eqb p q)) At
  decides_behind h k p q was is =
      let long = length-drop (place + count) xs in
      Decides-like (not (eqb p q))
      (λ (o : p ≡ q → ⊥). inr (inr (h, (omega (arith, long), λ d. o (was ∙ d ∙ sym is)))))
      (λ (u : At). ⊎_elim (λ g. absurd (no g.1)) (λ v. ⊎_elim (λ o. absurd (far o.0)) (λ o d. o.1.1 (sym was ∙ d ∙ is)) v) u)
      (Decides-not (eqb p q) (Decides-eqb p q))
    where
      no : i < place + count → ⊥
      no a = omega arith

      far : i < length (take place xs) → ⊥
      far a = omega (arith, length-take-le place xs (omega arith))

-- the level of an item from its class and the contexts beside it
module _ (xs : List Class) (b : Side) where
  pub level_front : (place i : ℕ) (r : Right) (l : Left) (c : Class) (s : Right) (n : ℕ) → i < place → l ≡ left (start b) (take i xs) → c ≡ get_or xs i none → s ≡ right r (drop (i + 1) (take place xs)) → n ≡ level_at b l c s → n ≡ level_in b (start b) r (take place xs) i
  level_front place i r l c s n h hl hc hs hn =
      hn ∙ (λ t. level_at b ((hl ∙ ap (left (start b)) (sym (take-take i place xs (omega arith)))) t) ((hc ∙ sym (get_or-take place xs i none h)) t) (hs t))

  pub level_rest : (from i : ℕ) (k l : Left) (c : Class) (s : Right) (n : ℕ) → from ≤ i → l ≡ left k (drop from (take i xs)) → c ≡ get_or xs i none → s ≡ right (end b) (drop (i + 1) xs) → n ≡ level_at b l c s → n ≡ level_in b k (end b) (drop from xs) (i - from)
  level_rest from i k l c s n h hl hc hs hn =
      let m = i - from in
      let whole : from + m ≡ i = omega arith in
      let beyond : i + 1 ≡ from + (m + 1) = omega arith in
      let item : get_or xs i none ≡ get_or (drop from xs) m none = sym (get_or-drop from xs m none ∙ ap (λ (j : ℕ). get_or xs j none) whole) in
      let part : drop from (take i xs) ≡ take m (drop from xs) = ap (λ (j : ℕ). drop from (take j xs)) (sym whole) ∙ drop-take from m xs in
      let back : drop (i + 1) xs ≡ drop (m + 1) (drop from xs) = ap (λ (j : ℕ). drop j xs) beyond ∙ sym (drop-drop (m + 1) from xs) in
      hn ∙ (λ t. level_at b ((hl ∙ ap (left k) part) t) ((hc ∙ item) t) ((hs ∙ ap (right (end b)) back) t))

pub changed_within : (e f : Edges) (xs : List Class) (place count : ℕ) → place + count ≤ length xs → (i : ℕ) → ChangedBy e f xs place count i → i < length xs
changed_within e f xs place count h i u = within e f xs place count i h u

-- a place that a change changed is there
pub changed_there : (e : Change) (k : ℕ) → IsChanged e k → k < length (items_of e.paragraph.now)
unfolding IsChanged
changed_there e k p =
    let fits = e.fits in
    let n = length-classes (items_of e.paragraph.now) in
    let a = changed_within e.was e.is (classes (items_of e.paragraph.now)) e.place e.count (omega arith) k p in
    omega arith
