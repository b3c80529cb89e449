-- What rotations and insertions do to a shape. Assumes nothing.
use Rattle.std.proofs.Common.{◌≡◌, ℕ, zero, suc, ◌+◌, ◌-◌, ◌≤◌, ltb, leb, List, [], ◌∷◌, ◌++◌, length, sym, refl, ap, ◌∙◌, append_assoc, arith}
use Rattle.std.proofs.lemmas.Bool.{leb-true, leb-false, cond_both}
use Rattle.std.specs.List.{insert}
use Rattle.tree.specs.Measures.{Operations}
use Rattle.tree.specs.Shapes.{Shape, leaf, node, tall, size, elements, Totalled, uses, one}
use Rattle.tree.specs.Surgery.{joined, rotate_right, rotate_left, rebalanced, inserted_at}
use Rattle.tree.proofs.Held.{length-elements}

-- what a rotation keeps
pub record Alike {E T : Type 0} (s t : Shape E T) : Type 0 where
  pub rows : (n : ℕ) → uses s n ≡ uses t n
  pub many : size s ≡ size t
  pub list : elements s ≡ elements t

module _ {E T : Type 0} (k : Operations E T) where
  alike_self : (s : Shape E T) → Alike s s
  alike_self s = record { rows = λ n. refl; many = refl; list = refl }

  alike_right : (a : Shape E T) (i : ℕ) (e : E) (b : Shape E T) → Alike (rotate_right k a i e b) (joined k a i e b)
  alike_right leaf i e b = alike_self _
  alike_right (node c l f t leaf) i e b = cond_both (leb 0 (tall c)) _ _ (λ s. Alike s (joined k (node c l f t leaf) i e b)) (λ _. record { rows = λ n. omega arith; many = omega arith; list = simp append_assoc }) (λ _. record { rows = λ n. refl; many = refl; list = refl })
  alike_right (node c l f t (node p m g v q)) i e b = cond_both (leb (tall (node p m g v q)) (tall c)) _ _ (λ s. Alike s (joined k (node c l f t (node p m g v q)) i e b)) (λ _. record { rows = λ n. omega arith; many = omega arith; list = simp append_assoc }) (λ _. record { rows = λ n. omega arith; many = omega arith; list = simp append_assoc })

  alike_left : (a : Shape E T) (i : ℕ) (e : E) (b : Shape E T) → Alike (rotate_left k a i e b) (joined k a i e b)
  alike_left a i e leaf = alike_self _
  alike_left a i e (node leaf l f t d) = cond_both (leb 0 (tall d)) _ _ (λ s. Alike s (joined k a i e (node leaf l f t d))) (λ _. record { rows = λ n. omega arith; many = omega arith; list = simp append_assoc }) (λ _. record { rows = λ n. refl; many = refl; list = refl })
  alike_left a i e (node (node p m g v q) l f t d) = cond_both (leb (tall (node p m g v q)) (tall d)) _ _ (λ s. Alike s (joined k a i e (node (node p m g v q) l f t d))) (λ _. record { rows = λ n. omega arith; many = omega arith; list = simp append_assoc }) (λ _. record { rows = λ n. omega arith; many = omega arith; list = simp append_assoc })

  pub alike : (a : Shape E T) (i : ℕ) (e : E) (b : Shape E T) → Alike (rebalanced k a i e b) (joined k a i e b)
  alike a i e b =
      cond_both (ltb (tall b + 1) (tall a)) _ _ (λ s. Alike s (joined k a i e b)) (λ _. alike_right a i e b)
      (λ _. cond_both (ltb (tall a + 1) (tall b)) _ _ (λ s. Alike s (joined k a i e b)) (λ _. alike_left a i e b) (λ _. alike_self _))

  -- the totals stay right
  totalled_right : (a : Shape E T) (i : ℕ) (e : E) (b : Shape E T) → Totalled k a → Totalled k b → Totalled k (rotate_right k a i e b)
  totalled_right leaf i e b h h' = (refl, h, h')
  totalled_right (node c l f t leaf) i e b h h' = cond_both (leb 0 (tall c)) _ _ (Totalled k) (λ _. (refl, h.1, (refl, h.2, h'))) (λ _. (refl, (refl, h.1, h.2), h'))
  totalled_right (node c l f t (node p m g v q)) i e b h h' = cond_both (leb (tall (node p m g v q)) (tall c)) _ _ (Totalled k) (λ _. (refl, h.1, (refl, h.2, h'))) (λ _. (refl, (refl, h.1, h.2.1), (refl, h.2.2, h')))

  totalled_left : (a : Shape E T) (i : ℕ) (e : E) (b : Shape E T) → Totalled k a → Totalled k b → Totalled k (rotate_left k a i e b)
  totalled_left a i e leaf h h' = (refl, h, h')
  totalled_left a i e (node leaf l f t d) h h' = cond_both (leb 0 (tall d)) _ _ (Totalled k) (λ _. (refl, (refl, h, h'.1), h'.2)) (λ _. (refl, h, (refl, h'.1, h'.2)))
  totalled_left a i e (node (node p m g v q) l f t d) h h' = cond_both (leb (tall (node p m g v q)) (tall d)) _ _ (Totalled k) (λ _. (refl, (refl, h, h'.1), h'.2)) (λ _. (refl, (refl, h, h'.1.1), (refl, h'.1.2, h'.2)))

  pub totalled_rebalanced : (a : Shape E T) (i : ℕ) (e : E) (b : Shape E T) → Totalled k a → Totalled k b → Totalled k (rebalanced k a i e b)
  totalled_rebalanced a i e b h h' =
      cond_both (ltb (tall b + 1) (tall a)) _ _ (Totalled k) (λ _. totalled_right a i e b h h')
      (λ _. cond_both (ltb (tall a + 1) (tall b)) _ _ (Totalled k) (λ _. totalled_left a i e b h h') (λ _. (refl, h, h')))

  pub totalled_insert : (s : Shape E T) (p f : ℕ) (x : E) → Totalled k s → Totalled k (inserted_at k s p f x)
  totalled_insert leaf p f x h = (refl, tt, tt)
  totalled_insert (node a i e t b) p f x h =
      cond_both (leb p (size a)) _ _ (Totalled k) (λ _. totalled_rebalanced _ i e b (totalled_insert a p f x h.1) h.2) (λ _. totalled_rebalanced a i e _ h.1 (totalled_insert b (p - size a - 1) f x h.2))

-- what an insertion adds
pub record More {E T : Type 0} (s t : Shape E T) (f : ℕ) : Type 0 where
  pub rows : (n : ℕ) → uses t n ≡ uses s n + one f n
  pub many : size t ≡ size s + 1

ins_left : {X : Type 0} (xs ys : List X) (i : ℕ) (x : X) → i ≤ length xs → insert (xs ++ ys) i x ≡ insert xs i x ++ ys
ins_left [] ys zero x h = refl
ins_left [] ys (suc i) x h = absurd (omega arith)
ins_left (y ∷ xs) ys zero x h = refl
ins_left (y ∷ xs) ys (suc i) x h = ap (λ l. y ∷ l) (ins_left xs ys i x (omega arith))

ins_right : {X : Type 0} (xs ys : List X) (y : X) (i j : ℕ) (x : X) → i ≡ length xs + 1 + j → insert (xs ++ (y ∷ ys)) i x ≡ xs ++ (y ∷ insert ys j x)
ins_right [] ys y zero j x h = absurd (omega arith)
ins_right [] ys y (suc i) j x h = let e : i ≡ j = omega arith in ap (λ n. y ∷ insert ys n x) e
ins_right (z ∷ xs) ys y zero j x h = absurd (omega arith)
ins_right (z ∷ xs) ys y (suc i) j x h = ap (λ l. z ∷ l) (ins_right xs ys y i j x (omega arith))

module _ {E T : Type 0} (k : Operations E T) where
  pub more : (s : Shape E T) (p f : ℕ) (x : E) → More s (inserted_at k s p f x) f
  more leaf p f x = record { rows = λ n. omega arith; many = omega arith }
  more (node a i e t b) p f x =
      let l = more a p f x in
      let r = more b (p - size a - 1) f x in
      cond_both (leb p (size a)) _ _ (λ y. More (node a i e t b) y f)
      (λ _. let m = alike k (inserted_at k a p f x) i e b in record { rows = λ n. let u = m.rows n in let v = l.rows n in omega arith; many = let u = m.many in let v = l.many in omega arith })
      (λ _. let m = alike k a i e (inserted_at k b (p - size a - 1) f x) in record { rows = λ n. let u = m.rows n in let v = r.rows n in omega arith; many = let u = m.many in let v = r.many in omega arith })

  pub list_put : (s : Shape E T) (p f : ℕ) (x : E) → p ≤ size s → elements (inserted_at k s p f x) ≡ insert (elements s) p x
  list_put leaf zero f x h = refl
  list_put leaf (suc p) f x h = absurd (omega arith)
  list_put (node a i e t b) p f x h =
      let n = length-elements a in
      cond_both (leb p (size a)) _ _ (λ y. elements y ≡ insert (elements (node a i e t b)) p x)
      (λ q. let q' = leb-true p (size a) q in
      (alike k (inserted_at k a p f x) i e b).list ∙ ap (λ l. l ++ (e ∷ elements b)) (list_put a p f x q') ∙ sym (ins_left (elements a) (e ∷ elements b) p x (omega arith)))
      (λ q. let q' = leb-false p (size a) q in
      (alike k a i e (inserted_at k b (p - size a - 1) f x)).list ∙ ap (λ l. elements a ++ (e ∷ l)) (list_put b (p - size a - 1) f x (omega arith)) ∙ sym (ins_right (elements a) (elements b) e p (p - size a - 1) x (omega arith)))
