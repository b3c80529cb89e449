-- That rotations keep a tree balanced. Assumes nothing.
use Rattle.std.proofs.Common.{◌≡◌, ℕ, ◌+◌, ◌-◌, ◌<◌, ◌≤◌, max, ltb, leb, ◌⊎◌, refl, inl, inr, arith}
use Rattle.std.proofs.lemmas.Bool.{ltb-true, ltb-false, leb-true, leb-false, cond_both, cases_lt}
use Rattle.tree.specs.Measures.{Operations}
use Rattle.tree.specs.Shapes.{Shape, leaf, node, tall, size, Balanced}
use Rattle.tree.specs.Surgery.{joined, rotate_right, rotate_left, rebalanced, inserted_at}

-- what s is to a and b, which it joins
pub record Levelled {E T : Type 0} (a b s : Shape E T) : Type 0 where
  pub balance : Balanced s
  pub high : tall s ≤ 1 + max (tall a) (tall b)
  pub low : max (tall a) (tall b) ≤ tall s
  pub same : tall a ≤ tall b + 1 → tall b ≤ tall a + 1 → tall s ≡ 1 + max (tall a) (tall b)

-- an insertion keeps a tree balanced, and raises it by one at most
pub record Grown {E T : Type 0} (s t : Shape E T) : Type 0 where
  pub balance : Balanced t
  pub high : tall t ≤ tall s + 1
  pub low : tall s ≤ tall t

-- n is the new height of one side, m the other's, o the old height
grow_low : (n m o r : ℕ) → (n ≤ m + 1 → m ≤ n + 1 → r ≡ 1 + max n m) → max n m ≤ r → o ≤ n → n ≤ o + 1 → o ≤ m + 1 → m ≤ o + 1 → 1 + max o m ≤ r
grow_low n m o r same low a b c d = grow (cases_lt (m + 1) n)
  where
    grow : ((m + 1 < n) ⊎ (n ≤ m + 1)) → 1 + max o m ≤ r
    grow (inl h) = omega arith
    grow (inr h) = let e = same h (omega arith) in omega arith

module _ {E T : Type 0} (k : Operations E T) where
  level_right : (a : Shape E T) (i : ℕ) (e : E) (b : Shape E T) → Balanced a → Balanced b → tall a ≡ tall b + 2 → Levelled a b (rotate_right k a i e b)
  level_right leaf i e b h h' d = absurd (omega arith)
  level_right (node c l f t leaf) i e b h h' d =
      let z : tall (joined k leaf i e b) ≡ 1 + max 0 (tall b) = refl in
      let h0 = h.0 in let h1 = h.1 in
      cond_both (leb 0 (tall c)) _ _ (Levelled (node c l f t leaf) b)
      (λ _. record { balance = (omega arith, omega arith, h.2, (omega arith, omega arith, tt, h')); high = omega arith; low = omega arith; same = λ u v. absurd (omega arith) })
      (λ q. let q' = leb-false 0 (tall c) q in absurd (omega arith))
  level_right (node c l f t (node p m g v r)) i e b h h' d =
      let h0 = h.0 in let h1 = h.1 in let h2 = h.3.0 in let h3 = h.3.1 in
      cond_both (leb (tall (node p m g v r)) (tall c)) _ _ (Levelled (node c l f t (node p m g v r)) b)
      (λ q. let q' = leb-true (tall (node p m g v r)) (tall c) q in record { balance = (omega arith, omega arith, h.2, (omega arith, omega arith, h.3, h')); high = omega arith; low = omega arith; same = λ u v. absurd (omega arith) })
      (λ q. let q' = leb-false (tall (node p m g v r)) (tall c) q in record { balance = (omega arith, omega arith, (omega arith, omega arith, h.2, h.3.2), (omega arith, omega arith, h.3.3, h')); high = omega arith; low = omega arith; same = λ u v. absurd (omega arith) })

  level_left : (a : Shape E T) (i : ℕ) (e : E) (b : Shape E T) → Balanced a → Balanced b → tall b ≡ tall a + 2 → Levelled a b (rotate_left k a i e b)
  level_left a i e leaf h h' d = absurd (omega arith)
  level_left a i e (node leaf l f t c) h h' d =
      let z : tall (joined k a i e leaf) ≡ 1 + max (tall a) 0 = refl in
      let h0 = h'.0 in let h1 = h'.1 in
      cond_both (leb 0 (tall c)) _ _ (Levelled a (node leaf l f t c))
      (λ _. record { balance = (omega arith, omega arith, (omega arith, omega arith, h, tt), h'.3); high = omega arith; low = omega arith; same = λ u v. absurd (omega arith) })
      (λ q. let q' = leb-false 0 (tall c) q in absurd (omega arith))
  level_left a i e (node (node p m g v r) l f t c) h h' d =
      let h0 = h'.0 in let h1 = h'.1 in let h2 = h'.2.0 in let h3 = h'.2.1 in
      cond_both (leb (tall (node p m g v r)) (tall c)) _ _ (Levelled a (node (node p m g v r) l f t c))
      (λ q. let q' = leb-true (tall (node p m g v r)) (tall c) q in record { balance = (omega arith, omega arith, (omega arith, omega arith, h, h'.2), h'.3); high = omega arith; low = omega arith; same = λ u v. absurd (omega arith) })
      (λ q. let q' = leb-false (tall (node p m g v r)) (tall c) q in record { balance = (omega arith, omega arith, (omega arith, omega arith, h, h'.2.2), (omega arith, omega arith, h'.2.3, h'.3)); high = omega arith; low = omega arith; same = λ u v. absurd (omega arith) })

  pub levelled : (a : Shape E T) (i : ℕ) (e : E) (b : Shape E T) → Balanced a → Balanced b → tall a ≤ tall b + 2 → tall b ≤ tall a + 2 → Levelled a b (rebalanced k a i e b)
  levelled a i e b h h' d d' =
      cond_both (ltb (tall b + 1) (tall a)) _ _ (Levelled a b)
      (λ q. let q' = ltb-true (tall b + 1) (tall a) q in level_right a i e b h h' (omega arith))
      (λ q. let q' = ltb-false (tall b + 1) (tall a) q in
      cond_both (ltb (tall a + 1) (tall b)) _ _ (Levelled a b)
      (λ r. let r' = ltb-true (tall a + 1) (tall b) r in level_left a i e b h h' (omega arith))
      (λ r. let r' = ltb-false (tall a + 1) (tall b) r in record { balance = (omega arith, omega arith, h, h'); high = omega arith; low = omega arith; same = λ _ _. refl }))

  pub grown_put : (s : Shape E T) (p f : ℕ) (x : E) → Balanced s → Grown s (inserted_at k s p f x)
  grown_put leaf p f x h = record { balance = (omega arith, omega arith, tt, tt); high = omega arith; low = omega arith }
  grown_put (node a i e t b) p f x h =
      let h0 = h.0 in let h1 = h.1 in
      cond_both (leb p (size a)) _ _ (Grown (node a i e t b))
      (λ _. let g = grown_put a p f x h.2 in let g0 = g.high in let g1 = g.low in
      let l = levelled (inserted_at k a p f x) i e b g.balance h.3 (omega arith) (omega arith) in
      let l0 = l.high in let l1 = l.low in
      record { balance = l.balance; high = omega arith; low = grow_low (tall (inserted_at k a p f x)) (tall b) (tall a) _ l.same l1 (omega arith) (omega arith) (omega arith) (omega arith) })
      (λ _. let g = grown_put b (p - size a - 1) f x h.3 in let g0 = g.high in let g1 = g.low in
      let l = levelled a i e (inserted_at k b (p - size a - 1) f x) h.2 g.balance (omega arith) (omega arith) in
      let l0 = l.high in let l1 = l.low in
      record { balance = l.balance; high = omega arith; low = let z = grow_low (tall (inserted_at k b (p - size a - 1) f x)) (tall a) (tall b) (tall (rebalanced k a i e (inserted_at k b (p - size a - 1) f x))) (λ u v. let y = l.same v u in omega arith) (omega arith) (omega arith) (omega arith) (omega arith) (omega arith) in omega arith })
