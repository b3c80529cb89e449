-- What the laws give of the totals. Assumes nothing.
use Rattle.std.proofs.Common.{◌≡◌, List, [], ◌∷◌, ◌++◌, sym, refl, ap, ◌∙◌}
use Rattle.tree.specs.Measures.{Operations, Lawful, Laws, unit, of, join, total_of}
use Rattle.tree.specs.Shapes.{Shape, leaf, node, elements, top_total, Totalled}

module _ {E T : Type 0} {k : Operations E T} (h : Laws k) where
  pub sum_lawful : (xs : List E) → Lawful k (total_of k xs)
  sum_lawful [] = unit
  sum_lawful (x ∷ xs) = join _ _ (of x) (sum_lawful xs)

  pub sum-append : (xs ys : List E) → total_of k (xs ++ ys) ≡ k.join (total_of k xs) (total_of k ys)
  sum-append [] ys = sym (h.left _ (sum_lawful ys))
  sum-append (x ∷ xs) ys = ap (k.join (k.of x)) (sum-append xs ys) ∙ sym (h.assoc _ _ _ (of x) (sum_lawful xs) (sum_lawful ys))

  pub mark_is : (s : Shape E T) → Totalled k s → top_total k s ≡ total_of k (elements s)
  mark_is leaf w = refl
  mark_is (node a i e t b) w =
      w.0 ∙ ap (λ x. k.join (k.join x (k.of e)) (top_total k b)) (mark_is a w.1) ∙ ap (λ x. k.join (k.join (total_of k (elements a)) (k.of e)) x) (mark_is b w.2)
      ∙ h.assoc _ _ _ (sum_lawful (elements a)) (of e) (sum_lawful (elements b)) ∙ sym (sum-append (elements a) (e ∷ elements b))
