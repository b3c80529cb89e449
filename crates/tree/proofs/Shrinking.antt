-- What a removal does to the list, the balance and the totals. Assumes nothing.
use Rattle.std.proofs.Common.{◌≡◌, ℕ, zero, suc, ◌+◌, ◌-◌, ◌<◌, ◌≤◌, max, eqb, ltb, ◌⊎◌, List, [], ◌∷◌, ◌++◌, length, sym, refl, ap, ◌∙◌, inl, inr, ⊎_elim, append_assoc, arith}
use Rattle.std.proofs.lemmas.Bool.{ltb-true, ltb-false, eqb-true, eqb-false, cond_both, cases_lt}
use Rattle.std.specs.List.{remove}
use Rattle.tree.specs.Measures.{Operations}
use Rattle.tree.specs.Shapes.{Shape, leaf, node, tall, size, elements, Totalled, Balanced}
use Rattle.tree.specs.Surgery.{rebalanced, rest, merged, removed_at, last_row, last_of}
use Rattle.tree.proofs.Held.{length-elements}
use Rattle.tree.proofs.Shaping.{alike, totalled_rebalanced}
use Rattle.tree.proofs.Balancing.{levelled}

out_left : {X : Type 0} (xs ys : List X) (i : ℕ) → i < length xs → remove (xs ++ ys) i ≡ remove xs i ++ ys
out_left [] ys i h = absurd (omega arith)
out_left (x ∷ xs) ys zero h = refl
out_left (x ∷ xs) ys (suc i) h = ap (λ l. x ∷ l) (out_left xs ys i (omega arith))

out_here : {X : Type 0} (xs ys : List X) (y : X) (i : ℕ) → i ≡ length xs → remove (xs ++ (y ∷ ys)) i ≡ xs ++ ys
out_here [] ys y zero h = refl
out_here [] ys y (suc i) h = absurd (omega arith)
out_here (x ∷ xs) ys y zero h = absurd (omega arith)
out_here (x ∷ xs) ys y (suc i) h = ap (λ l. x ∷ l) (out_here xs ys y i (omega arith))

out_right : {X : Type 0} (xs ys : List X) (y : X) (i j : ℕ) → i ≡ length xs + 1 + j → remove (xs ++ (y ∷ ys)) i ≡ xs ++ (y ∷ remove ys j)
out_right [] ys y zero j h = absurd (omega arith)
out_right [] ys y (suc i) j h = let e : i ≡ j = omega arith in ap (λ n. y ∷ remove ys n) e
out_right (x ∷ xs) ys y zero j h = absurd (omega arith)
out_right (x ∷ xs) ys y (suc i) j h = ap (λ l. x ∷ l) (out_right xs ys y i j (omega arith))

above : (p n : ℕ) → n ≤ p → (p ≡ n → ⊥) → n < p
above p n h ne = ⊎_elim (λ e. e) (λ e. absurd (ne (omega arith))) (cases_lt n p)

pub record Shrunk {E T : Type 0} (s t : Shape E T) : Type 0 where
  pub balance : Balanced t
  pub high : tall t ≤ tall s
  pub low : tall s ≤ tall t + 1

-- n is the new height of one side, m the other's, o the old height, r that of what joins them
shrink : (n m o r : ℕ) → (n ≤ m + 1 → m ≤ n + 1 → r ≡ 1 + max n m) → max n m ≤ r → r ≤ 1 + max n m → n ≤ o → o ≤ n + 1 → o ≤ m + 1 → m ≤ o + 1 → (r ≤ 1 + max o m) × (1 + max o m ≤ r + 1)
shrink n m o r same low high a b c d = go (cases_lt (n + 1) m)
  where
    go : ((n + 1 < m) ⊎ (m ≤ n + 1)) → (r ≤ 1 + max o m) × (1 + max o m ≤ r + 1)
    go (inl h) = (omega arith, omega arith)
    go (inr h) = let e = same (omega arith) h in (omega arith, omega arith)

module _ {E T : Type 0} (k : Operations E T) where
  list_rest : (a : Shape E T) (i : ℕ) (e : E) (t : T) (b : Shape E T) → elements (rest k (node a i e t b)) ++ (last_of e b ∷ []) ≡ elements (node a i e t b)
  list_rest a i e t leaf = refl
  list_rest a i e t (node c j f u g) =
      ap (λ l. l ++ (last_of f g ∷ [])) (alike k a i e (rest k (node c j f u g))).list ∙ append_assoc (elements a) (e ∷ elements (rest k (node c j f u g))) (last_of f g ∷ [])
      ∙ ap (λ l. elements a ++ (e ∷ l)) (list_rest c j f u g)

  list_merged : (a b : Shape E T) → elements (merged k a b) ≡ elements a ++ elements b
  list_merged leaf b = refl
  list_merged (node a i e t c) b =
      (alike k (rest k (node a i e t c)) (last_row i c) (last_of e c) b).list
      ∙ sym (append_assoc (elements (rest k (node a i e t c))) (last_of e c ∷ []) (elements b)) ∙ ap (λ l. l ++ elements b) (list_rest a i e t c)

  pub list_out : (s : Shape E T) (p : ℕ) → p < size s → elements (removed_at k s p) ≡ remove (elements s) p
  list_out leaf p h = absurd (omega arith)
  list_out (node a i e t b) p h =
      let n = length-elements a in
      let P : Shape E T → Type 0 = λ y. elements y ≡ remove (elements (node a i e t b)) p in
      cond_both (ltb p (size a)) _ _ P
      (λ q. let q' = ltb-true p (size a) q in (alike k (removed_at k a p) i e b).list ∙ ap (λ l. l ++ (e ∷ elements b)) (list_out a p q') ∙ sym (out_left (elements a) (e ∷ elements b) p (omega arith)))
      (λ q. let q' = ltb-false p (size a) q in cond_both (eqb p (size a)) _ _ P
      (λ r. let r' = eqb-true p (size a) r in list_merged a b ∙ sym (out_here (elements a) (elements b) e p (omega arith)))
      (λ r. let r' = eqb-false p (size a) r in let d : size a < p = above p (size a) q' r' in
      (alike k a i e (removed_at k b (p - size a - 1))).list ∙ ap (λ l. elements a ++ (e ∷ l)) (list_out b (p - size a - 1) (omega arith)) ∙ sym (out_right (elements a) (elements b) e p (p - size a - 1) (omega arith))))

  shrunk_rest : (a : Shape E T) (i : ℕ) (e : E) (t : T) (b : Shape E T) → Balanced (node a i e t b) → Shrunk (node a i e t b) (rest k (node a i e t b))
  shrunk_rest a i e t leaf h = let h0 = h.0 in let h1 = h.1 in record { balance = h.2; high = omega arith; low = omega arith }
  shrunk_rest a i e t (node c j f u g) h =
      let h0 = h.0 in let h1 = h.1 in
      let r = shrunk_rest c j f u g h.3 in
      let r0 = r.high in let r1 = r.low in
      let l = levelled k a i e (rest k (node c j f u g)) h.2 r.balance (omega arith) (omega arith) in
      let l0 = l.high in let l1 = l.low in
      let z = shrink (tall (rest k (node c j f u g))) (tall a) (tall (node c j f u g)) (tall (rebalanced k a i e (rest k (node c j f u g)))) (λ x y. let w = l.same y x in omega arith) (omega arith) (omega arith) (omega arith) (omega arith) (omega arith) (omega arith) in
      let z0 = z.0 in let z1 = z.1 in
      record { balance = l.balance; high = omega arith; low = omega arith }

  shrunk_merged : (a : Shape E T) (i : ℕ) (e : E) (t : T) (b : Shape E T) → Balanced (node a i e t b) → Shrunk (node a i e t b) (merged k a b)
  shrunk_merged leaf i e t b h = let h0 = h.0 in let h1 = h.1 in record { balance = h.3; high = omega arith; low = omega arith }
  shrunk_merged (node c j f u g) i e t b h =
      let h0 = h.0 in let h1 = h.1 in
      let r = shrunk_rest c j f u g h.2 in
      let r0 = r.high in let r1 = r.low in
      let l = levelled k (rest k (node c j f u g)) (last_row j g) (last_of f g) b r.balance h.3 (omega arith) (omega arith) in
      let l0 = l.high in let l1 = l.low in
      let z = shrink (tall (rest k (node c j f u g))) (tall b) (tall (node c j f u g)) (tall (merged k (node c j f u g) b)) l.same (omega arith) (omega arith) (omega arith) (omega arith) (omega arith) (omega arith) in
      let z0 = z.0 in let z1 = z.1 in
      record { balance = l.balance; high = omega arith; low = omega arith }

  pub shrunk_out : (s : Shape E T) (p : ℕ) → Balanced s → Shrunk s (removed_at k s p)
  shrunk_out leaf p h = record { balance = tt; high = omega arith; low = omega arith }
  shrunk_out (node a i e t b) p h =
      let h0 = h.0 in let h1 = h.1 in
      cond_both (ltb p (size a)) _ _ (Shrunk (node a i e t b))
      (λ _. let r = shrunk_out a p h.2 in
      let r0 = r.high in let r1 = r.low in
      let l = levelled k (removed_at k a p) i e b r.balance h.3 (omega arith) (omega arith) in
      let l0 = l.high in let l1 = l.low in
      let z = shrink (tall (removed_at k a p)) (tall b) (tall a) (tall (rebalanced k (removed_at k a p) i e b)) l.same (omega arith) (omega arith) (omega arith) (omega arith) (omega arith) (omega arith) in
      let z0 = z.0 in let z1 = z.1 in
      record { balance = l.balance; high = omega arith; low = omega arith })
      (λ _. cond_both (eqb p (size a)) _ _ (Shrunk (node a i e t b))
      (λ _. shrunk_merged a i e t b h)
      (λ _. let r = shrunk_out b (p - size a - 1) h.3 in
      let r0 = r.high in let r1 = r.low in
      let l = levelled k a i e (removed_at k b (p - size a - 1)) h.2 r.balance (omega arith) (omega arith) in
      let l0 = l.high in let l1 = l.low in
      let z = shrink (tall (removed_at k b (p - size a - 1))) (tall a) (tall b) (tall (rebalanced k a i e (removed_at k b (p - size a - 1)))) (λ x y. let w = l.same y x in omega arith) (omega arith) (omega arith) (omega arith) (omega arith) (omega arith) (omega arith) in
      let z0 = z.0 in let z1 = z.1 in
      record { balance = l.balance; high = omega arith; low = omega arith }))

  -- the totals stay right
  totalled_rest : (s : Shape E T) → Totalled k s → Totalled k (rest k s)
  totalled_rest leaf h = tt
  totalled_rest (node a i e t leaf) h = h.1
  totalled_rest (node a i e t (node c j f u g)) h = totalled_rebalanced k a i e _ h.1 (totalled_rest (node c j f u g) h.2)

  totalled_merged : (a b : Shape E T) → Totalled k a → Totalled k b → Totalled k (merged k a b)
  totalled_merged leaf b h h' = h'
  totalled_merged (node a i e t c) b h h' = totalled_rebalanced k _ (last_row i c) (last_of e c) b (totalled_rest (node a i e t c) h) h'

  pub totalled_out : (s : Shape E T) (p : ℕ) → Totalled k s → Totalled k (removed_at k s p)
  totalled_out leaf p h = tt
  totalled_out (node a i e t b) p h =
      cond_both (ltb p (size a)) _ _ (Totalled k) (λ _. totalled_rebalanced k _ i e b (totalled_out a p h.1) h.2)
      (λ _. cond_both (eqb p (size a)) _ _ (Totalled k) (λ _. totalled_merged a b h.1 h.2) (λ _. totalled_rebalanced k a i e _ h.1 (totalled_out b (p - size a - 1) h.2)))
