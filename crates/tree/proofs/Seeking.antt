-- The total of a stretch, and the place that a weight leads to, from the two parts of a row.
use Rattle.std.proofs.Common.{◌≡◌, ℕ, ◌+◌, ◌-◌, ◌<◌, ◌≤◌, List, ◌∷◌, ◌++◌, length, sum_by, sym, ap, ◌∙◌, subst, arith}
use Rattle.std.specs.List.{between}
use Rattle.tree.specs.Measures.{Operations, Laws, of, total_of}
use Rattle.tree.specs.Shapes.{Shape, node, size, elements, top_total, Totalled}
use Rattle.tree.specs.Surgery.{part_of}
use Rattle.tree.specs.Weights.{over, weight_of}
use Rattle.tree.specs.declared.row.Row.{Row}
use Rattle.tree.specs.declared.row.Part.{Part}
use Rattle.tree.proofs.Held.{Opened, length-elements}
use Rattle.tree.proofs.Stretches.{between_left, between_right, between_both, between_whole}
use Rattle.tree.proofs.Totals.{sum_lawful, sum-append, mark_is}
use Rattle.tree.proofs.Weighing.{weight_below, over_left, over_element, over_rest}

module _ {E T : Type 0} {k : Operations E T} (h : Laws k) {rows : List (Row E T)} {i : ℕ} {row : Row E T} {s : Shape E T} (o : Opened rows i row s) (t : Totalled k s) where
  parts : Totalled k (node o.a i row.element row.total o.b)
  parts = subst (Totalled k) o.is t

  pub left_totalled : Totalled k o.a
  left_totalled = parts.1

  pub right_totalled : Totalled k o.b
  right_totalled = parts.2

  list_is : elements s ≡ elements o.a ++ (row.element ∷ elements o.b)
  list_is = ap elements o.is

  -- the stretch is the whole part
  pub total_whole : (end : ℕ) → end ≡ size s → row.total ≡ total_of k (between 0 end (elements s))
  total_whole end e =
      let n = length-elements s in
      sym (ap (top_total k) o.is) ∙ mark_is h s t ∙ ap (total_of k) (sym (between_whole (elements s) end (omega arith)))

  module _ (first end : ℕ) {r : T} where
    pub total_left : first ≤ end → end ≤ size o.a → r ≡ total_of k (between first end (elements o.a)) → r ≡ total_of k (between first end (elements s))
    total_left u v is =
        let n = length-elements o.a in
        is ∙ ap (total_of k) (sym (ap (between first end) list_is ∙ between_left (elements o.a) _ _ first end u (omega arith)))

    pub total_right : (f g : ℕ) → first ≤ end → first ≡ size o.a + 1 + f → end ≡ size o.a + 1 + g → r ≡ total_of k (between f g (elements o.b)) → r ≡ total_of k (between first end (elements s))
    total_right f g u v x is =
        let n = length-elements o.a in
        is ∙ ap (total_of k) (sym (ap (between first end) list_is ∙ between_right (elements o.a) _ _ first end f g u (omega arith) (omega arith)))

    pub total_both : (g : ℕ) {l m : T} → first ≤ size o.a → end ≡ size o.a + 1 + g → l ≡ total_of k (between first (size o.a) (elements o.a)) → m ≡ total_of k (between 0 g (elements o.b)) → r ≡ k.join (k.join l (k.of row.element)) m → r ≡ total_of k (between first end (elements s))
    total_both g {l} {m} u v a b is =
        let n = length-elements o.a in
        let xs = between first (length (elements o.a)) (elements o.a) in
        let ys = between 0 g (elements o.b) in
        let l' : l ≡ total_of k xs = a ∙ ap (λ x. total_of k (between first x (elements o.a))) (sym n) in
        is ∙ ap (λ x. k.join (k.join x (k.of row.element)) m) l' ∙ ap (λ x. k.join (k.join (total_of k xs) (k.of row.element)) x) b
        ∙ h.assoc _ _ _ (sum_lawful h xs) (of row.element) (sum_lawful h ys) ∙ sym (sum-append h xs (row.element ∷ ys))
        ∙ ap (total_of k) (sym (ap (between first end) list_is ∙ between_both (elements o.a) _ _ first end g (omega arith) (omega arith)))

  -- p is what the row knows of the part on its left
  module _ (w : ℕ) {p : Part T} (is : p ≡ part_of k o.a) where
    before : k.weight p.total ≡ sum_by (weight_of k) (elements o.a)
    before = ap (λ x. k.weight x.total) is ∙ weight_below h o.a left_totalled o.left.few

    counted : p.count ≡ length (elements o.a)
    counted = ap (λ x. x.count) is ∙ sym (length-elements o.a)

    pub seek_left : {r : ℕ} → w < k.weight p.total → r ≡ over (weight_of k) w (elements o.a) → r ≡ over (weight_of k) w (elements s)
    seek_left l e =
        let b = before in
        e ∙ sym (ap (over (weight_of k) w) list_is ∙ over_left (weight_of k) w (elements o.a) _ (omega arith))

    pub seek_here : k.weight p.total ≤ w → w - k.weight p.total < weight_of k row.element → p.count ≡ over (weight_of k) w (elements s)
    seek_here u v =
        let b = before in
        counted ∙ sym (ap (over (weight_of k) w) list_is ∙ over_element (weight_of k) w (elements o.a) row.element _ (omega arith) (omega arith))

    pub seek_right : {r : ℕ} → k.weight p.total ≤ w → weight_of k row.element ≤ w - k.weight p.total → r ≡ over (weight_of k) (w - k.weight p.total - weight_of k row.element) (elements o.b) → p.count + 1 + r ≡ over (weight_of k) w (elements s)
    seek_right {r} u v e =
        let b = before in
        let n = counted in
        let x = ap (over (weight_of k) w) list_is in
        let y = over_rest (weight_of k) w (elements o.a) row.element (elements o.b) (omega arith) (omega arith) in
        let z = ap (λ m. over (weight_of k) (w - m - weight_of k row.element) (elements o.b)) b in
        omega arith
