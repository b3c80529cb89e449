-- What a depth tells: how many elements are there, and how many places can have it.
use Rattle.std.proofs.Common.{◌≡◌, ℕ, zero, suc, ◌+◌, ◌-◌, ◌^◌, ◌<◌, ◌≤◌, max, cond, eqb, ltb, ◌⊎◌, refl, ap, ◌∙◌, inl, inr, ⊎_elim, arith}
use native.Mathlib.Nat.{pow-succ'}
use Rattle.std.proofs.lemmas.Bool.{lt-ltb, le-ltb, eq-eqb, ne_eqb, cond-true, cond-false, cases_eq, cases_lt}
use Rattle.std.proofs.lemmas.Bool.Decides.{nat_tests}
use Rattle.tree.specs.Shapes.{Shape, leaf, node, tall, size, depth, Balanced}
use Rattle.tree.specs.Trees.{least, places_at}

least_step : (k : ℕ) → least k ≤ least (suc k)
least_step zero = omega arith
least_step (suc zero) = omega arith
least_step (suc (suc k)) = omega arith

-- a greater height asks for more elements
least_more : (k d : ℕ) → least k ≤ least (d + k)
least_more k zero = let e : 0 + k ≡ k = omega arith in let f = ap least e in omega arith
least_more k (suc d) = let e : suc d + k ≡ suc (d + k) = omega arith in let f = ap least e in let h = least_more k d in let i = least_step (d + k) in omega arith

least_mono : (j k : ℕ) → j ≤ k → least j ≤ least k
least_mono j k h = let e : k - j + j ≡ k = omega arith in let f = ap least e in let i = least_more j (k - j) in omega arith

-- one height is the other's or one less
least_node : (a b m n : ℕ) → a ≤ b + 1 → b ≤ a + 1 → least a ≤ m → least b ≤ n → least (1 + max a b) ≤ m + 1 + n
least_node a b m n h h' u v = go (cases_lt a b)
  where
    pick : (j k : ℕ) → j ≤ k → k ≤ j + 1 → least (1 + k) ≤ least k + least j + 1
    pick zero zero h i = omega arith
    pick zero (suc zero) h i = omega arith
    pick zero (suc (suc k)) h i = absurd (omega arith)
    pick (suc j) zero h i = absurd (omega arith)
    pick (suc j) (suc k) h i = let e : 1 + suc k ≡ suc (suc k) = omega arith in let f = ap least e in let g = least_mono k (suc j) (omega arith) in omega arith

    go : ((a < b) ⊎ (b ≤ a)) → least (1 + max a b) ≤ m + 1 + n
    go (inl l) = let e : 1 + max a b ≡ 1 + b = omega arith in let f = ap least e in let p = pick a b (omega arith) (omega arith) in omega arith
    go (inr l) = let e : 1 + max a b ≡ 1 + a = omega arith in let f = ap least e in let p = pick b a (omega arith) (omega arith) in omega arith

module _ {E T : Type 0} where
  least_size : (s : Shape E T) → Balanced s → least (tall s) ≤ size s
  least_size leaf h = omega arith
  least_size (node a i e t b) h = least_node (tall a) (tall b) (size a) (size b) h.0 h.1 (least_size a h.2) (least_size b h.3)

  depth_tall : (s : Shape E T) (p : ℕ) → depth s p ≤ tall s
  depth_tall leaf p = omega arith
  depth_tall (node a i e t b) p =
      let l = depth_tall a p in
      let r = depth_tall b (p - size a - 1) in
      grind (arith, nat_tests)

  -- a depth shows how many elements are there at least
  pub least_at : (s : Shape E T) (p : ℕ) → Balanced s → least (depth s p) ≤ size s
  least_at s p h = let a = least_mono (depth s p) (tall s) (depth_tall s p) in let b = least_size s h in omega arith

-- counting places: those of equal depths, of two stretches, and one deeper
same_places : (f g : ℕ → ℕ) (k n : ℕ) → ((i : ℕ) → i < n → f i ≡ g i) → places_at f k n ≡ places_at g k n
same_places f g k zero h = refl
same_places f g k (suc n) h = ap (λ x. x + cond (eqb (f n) k) 1 0) (same_places f g k n (λ i l. h i (omega arith))) ∙ ap (λ x. places_at g k n + cond (eqb x k) 1 0) (h n (omega arith))

split_places : (f : ℕ → ℕ) (k m n : ℕ) → places_at f k (m + n) ≡ places_at f k m + places_at (λ i. f (m + i)) k n
split_places f k m zero = let e : m + 0 ≡ m = omega arith in ap (places_at f k) e ∙ (omega arith)
split_places f k m (suc n) = let e : m + suc n ≡ suc (m + n) = omega arith in let h = split_places f k m n in ap (places_at f k) e ∙ omega arith

deeper_places : (f : ℕ → ℕ) (k n : ℕ) → places_at (λ i. 1 + f i) (suc k) n ≡ places_at f k n
deeper_places f k zero = refl
deeper_places f k (suc n) =
    let h = deeper_places f k n in
    ⊎_elim
    (λ e. let a = cond-true {A = ℕ} (eqb (f n) k) 1 0 (eq-eqb (f n) k e) in let b = cond-true {A = ℕ} (eqb (1 + f n) (suc k)) 1 0 (eq-eqb (1 + f n) (suc k) (omega arith)) in omega arith)
    (λ e. let a = cond-false {A = ℕ} (eqb (f n) k) 1 0 (ne_eqb (f n) k e) in let b = cond-false {A = ℕ} (eqb (1 + f n) (suc k)) 1 0 (ne_eqb (1 + f n) (suc k) (λ x. e (omega arith))) in omega arith)
    (cases_eq (f n) k)

-- nothing is less deep than the top
no_places : (f : ℕ → ℕ) (n : ℕ) → places_at (λ i. 1 + f i) 0 n ≡ 0
no_places f zero = refl
no_places f (suc n) = let h = no_places f n in let b = cond-false {A = ℕ} (eqb (1 + f n) 0) 1 0 (ne_eqb (1 + f n) 0 (λ x. omega arith)) in omega arith

module _ {E T : Type 0} (a : Shape E T) (i : ℕ) (e : E) (t : T) (b : Shape E T) where
  depth_left : (p : ℕ) → p < size a → depth (node a i e t b) p ≡ 1 + depth a p
  depth_left p h = ap (λ x. 1 + x) (cond-true (ltb p (size a)) _ _ (lt-ltb p (size a) h))

  depth_here : depth (node a i e t b) (size a) ≡ 1
  depth_here = ap (λ x. 1 + x) (cond-false (ltb (size a) (size a)) _ _ (le-ltb (size a) (size a) (omega arith)) ∙ cond-true {A = ℕ} (eqb (size a) (size a)) 0 _ (eq-eqb (size a) (size a) refl))

  depth_right : (p : ℕ) → depth (node a i e t b) (size a + 1 + p) ≡ 1 + depth b p
  depth_right p =
      let q : size a + 1 + p - size a - 1 ≡ p = omega arith in
      ap (λ x. 1 + x) (cond-false (ltb (size a + 1 + p) (size a)) _ _ (le-ltb (size a + 1 + p) (size a) (omega arith)) ∙ cond-false {A = ℕ} (eqb (size a + 1 + p) (size a)) 0 _ (ne_eqb (size a + 1 + p) (size a) (λ x. omega arith)) ∙ ap (depth b) q)

  -- the places of a node are those on its left, its own, and those on its right
  node_places : (k : ℕ) → places_at (depth (node a i e t b)) k (size a + 1 + size b) ≡ places_at (λ p. 1 + depth a p) k (size a) + cond (eqb 1 k) 1 0 + places_at (λ p. 1 + depth b p) k (size b)
  node_places k =
      let f = depth (node a i e t b) in
      let u = split_places f k (size a + 1) (size b) in
      let v = ap (places_at f k) (let x : size a + 1 ≡ suc (size a) = omega arith in x) in
      let l = same_places f (λ p. 1 + depth a p) k (size a) depth_left in
      let m : cond {A = ℕ} (eqb (f (size a)) k) 1 0 ≡ cond {A = ℕ} (eqb 1 k) 1 0 = ap (λ (x : ℕ). cond {A = ℕ} (eqb x k) 1 0) depth_here in
      let r = same_places (λ p. f (size a + 1 + p)) (λ p. 1 + depth b p) k (size b) (λ p h. depth_right p) in
      omega arith

-- at most so many places have a depth as rows fit there
sparse_from : {E T : Type 0} (s : Shape E T) (k : ℕ) → (places_at (depth s) 0 (size s) ≡ 0) × (places_at (depth s) (suc k) (size s) ≤ 2 ^ k)
sparse_from leaf k = (refl, omega arith)
sparse_from (node a i e t b) zero =
    let z = node_places a i e t b 0 in
    let o = node_places a i e t b 1 in
    let za = no_places (depth a) (size a) in
    let zb = no_places (depth b) (size b) in
    let da = deeper_places (depth a) 0 (size a) in
    let db = deeper_places (depth b) 0 (size b) in
    let ha = (sparse_from a 0).0 in
    let hb = (sparse_from b 0).0 in
    (omega arith, omega arith)
sparse_from (node a i e t b) (suc k) =
    let z = node_places a i e t b 0 in
    let o = node_places a i e t b (suc (suc k)) in
    let za = no_places (depth a) (size a) in
    let zb = no_places (depth b) (size b) in
    let m = cond-false {A = ℕ} (eqb 1 (suc (suc k))) 1 0 (ne_eqb 1 (suc (suc k)) (λ x. omega arith)) in
    let da = deeper_places (depth a) (suc k) (size a) in
    let db = deeper_places (depth b) (suc k) (size b) in
    let ha = (sparse_from a k).1 in
    let hb = (sparse_from b k).1 in
    let w = pow-succ' 2 k in
    (omega arith, omega arith)

pub sparse : {E T : Type 0} (s : Shape E T) (k : ℕ) → places_at (depth s) k (size s) ≤ 2 ^ (k - 1)
sparse s zero = let h = (sparse_from s 0).0 in omega arith
sparse s (suc k) = let h = (sparse_from s k).1 in let e : suc k - 1 ≡ k = omega arith in let f = ap (λ x. 2 ^ x) e in omega arith
