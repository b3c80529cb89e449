-- The totals on either side of a place of a part, from the two parts of its row.
use Rattle.std.proofs.Common.{◌≡◌, ℕ, suc, ◌+◌, ◌-◌, ◌<◌, ◌∷◌, length, take, drop, sym, ap, ◌∙◌, subst, arith}
use Rattle.std.proofs.lemmas.List.{take_all, take-append-le, drop-append-le}
use Rattle.tree.specs.Measures.{Operations, Lawful, Laws, of, join, total_of}
use Rattle.tree.specs.Shapes.{Shape, node, size, elements, top_total, Totalled}
use Rattle.tree.specs.Sides.{Around}
use Rattle.tree.proofs.Held.{nth_left, nth_right, length-elements}
use Rattle.tree.proofs.Stretches.{take_past, drop_past}
use Rattle.tree.proofs.Totals.{sum_lawful, sum-append, mark_is}

module _ {E T : Type 0} {k : Operations E T} (h : Laws k) (a : Shape E T) (i : ℕ) (e : E) (t : T) (b : Shape E T) (p : ℕ) (before behind : T) where
  abbrev Whole : Shape E T
  Whole = node a i e t b

  total_lawful : (s : Shape E T) → Totalled k s → Lawful k (top_total k s)
  total_lawful s w = subst (Lawful k) (sym (mark_is h s w)) (sum_lawful h (elements s))

  pub around_left : p < size a → {r : T × E × T} → Around k a p before (k.join (k.join (k.of e) (top_total k b)) behind) r → Around k Whole p before behind r
  around_left u {r} w =
      let n = length-elements a in
      let rest = e ∷ elements b in
      record {
        here = nth_left (elements a) rest p (omega arith) ∙ w.here;
        sides = λ q lb lh.
            let mark = mark_is h b q.2 in
            let lt = total_lawful b q.2 in
            let x = w.sides q.1 lb (join _ _ (join _ _ (of e) lt) lh) in
            let d = drop (p + 1) (elements a) in (
              x.0 ∙ ap (λ l. k.join before (total_of k l)) (sym (take-append-le p (elements a) rest (omega arith))),
              x.1 ∙ sym (h.assoc _ _ _ (sum_lawful h d) (join _ _ (of e) lt) lh) ∙ ap (λ m. k.join (k.join (total_of k d) (k.join (k.of e) m)) behind) mark
                  ∙ ap (λ m. k.join m behind) (sym (sum-append h d rest)) ∙ ap (λ l. k.join (total_of k l) behind) (sym (drop-append-le (p + 1) (elements a) rest (omega arith))),
            );
      }

  pub around_here : p ≡ size a → (l r : T) → l ≡ k.join before (top_total k a) → r ≡ k.join (top_total k b) behind → Around k Whole p before behind (l, e, r)
  around_here u l r x y =
      let n = length-elements a in
      let rest = e ∷ elements b in
      record {
        here = nth_right (elements a) rest p 0 (omega arith);
        sides = λ q lb lh. (
          x ∙ ap (k.join before) (mark_is h a q.1) ∙ ap (λ m. k.join before (total_of k m)) (sym (take-append-le p (elements a) rest (omega arith) ∙ take_all p (elements a) (omega arith))),
          y ∙ ap (λ m. k.join m behind) (mark_is h b q.2) ∙ ap (λ m. k.join (total_of k m) behind) (sym (drop_past (elements a) rest (p + 1) (suc 0) (omega arith))),
        );
      }

  pub around_right : size a < p → {r : T × E × T} → Around k b (p - size a - 1) (k.join (k.join before (top_total k a)) (k.of e)) behind r → Around k Whole p before behind r
  around_right u {r} w =
      let n = length-elements a in
      let rest = e ∷ elements b in
      let q = p - size a - 1 in
      record {
        here = nth_right (elements a) rest p (suc q) (omega arith) ∙ w.here;
        sides = λ v lb lh.
            let mark = mark_is h a v.1 in
            let la = total_lawful a v.1 in
            let x = w.sides v.2 (join _ _ (join _ _ lb la) (of e)) lh in
            let m = take q (elements b) in
            let lm = sum_lawful h m in
            let past : p + 1 ≡ length (elements a) + suc (q + 1) = omega arith in (
              x.0 ∙ h.assoc _ _ _ (join _ _ lb la) (of e) lm ∙ h.assoc _ _ _ lb la (join _ _ (of e) lm)
                  ∙ ap (λ z. k.join before (k.join z (total_of k (e ∷ m)))) mark ∙ ap (k.join before) (sym (sum-append h (elements a) (e ∷ m)))
                  ∙ ap (λ z. k.join before (total_of k z)) (sym (take_past (elements a) rest p (suc q) (omega arith))),
              x.1 ∙ ap (λ z. k.join (total_of k z) behind) (sym (drop_past (elements a) rest (p + 1) (suc (q + 1)) past)),
            );
      }
