-- Weights of few elements add up, so a place can be sought by the weights of the parts.
use Rattle.std.proofs.Common.{◌≡◌, ℕ, ◌+◌, ◌-◌, ◌*◌, ◌<◌, ◌≤◌, ltb, List, [], ◌∷◌, ◌++◌, length, sum_by, sym, refl, ap, ◌∙◌, ⊎_elim, arith}
use Rattle.std.proofs.lemmas.List.Sums.{sum_by-cons}
use Rattle.std.proofs.lemmas.Bool.{lt-ltb, le-ltb, cond-true, cond-false, cases_lt}
use Rattle.tree.specs.Measures.{Operations, Lawful, Laws, of, join, total_of}
use Rattle.tree.specs.Plain.{first_over}
use Rattle.tree.specs.Shapes.{Shape, size, elements, top_total, Totalled}
use Rattle.tree.specs.Weights.{over, weight_of}
use Rattle.tree.proofs.Held.{length-elements}
use Rattle.tree.proofs.Totals.{sum_lawful, mark_is}

module _ {E : Type 0} (f : E → ℕ) where
  over_here : (w : ℕ) (x : E) (xs : List E) → w < f x → over f w (x ∷ xs) ≡ 0
  over_here w x xs h = cond-true {A = ℕ} (ltb w (f x)) 0 _ (lt-ltb w (f x) h)

  over_past : (w : ℕ) (x : E) (xs : List E) → f x ≤ w → over f w (x ∷ xs) ≡ 1 + over f (w - f x) xs
  over_past w x xs h = cond-false {A = ℕ} (ltb w (f x)) 0 _ (le-ltb w (f x) h)

  -- the place lies in the first part where that weighs more, else in the second
  pub over_left : (w : ℕ) (xs ys : List E) → w < sum_by f xs → over f w (xs ++ ys) ≡ over f w xs
  over_left w [] ys h = absurd (omega arith)
  over_left w (x ∷ xs) ys h =
      let s = sum_by-cons f x xs in
      ⊎_elim (λ l. over_here w x (xs ++ ys) l ∙ sym (over_here w x xs l))
      (λ l. over_past w x (xs ++ ys) l ∙ ap (λ n. 1 + n) (over_left (w - f x) xs ys (omega arith)) ∙ sym (over_past w x xs l))
      (cases_lt w (f x))

  pub over_right : (w : ℕ) (xs ys : List E) → sum_by f xs ≤ w → over f w (xs ++ ys) ≡ length xs + over f (w - sum_by f xs) ys
  over_right w [] ys h = let e : w ≡ w - 0 = omega arith in let i = ap (λ m. over f m ys) e in omega arith
  over_right w (x ∷ xs) ys h =
      let s = sum_by-cons f x xs in
      let p = over_past w x (xs ++ ys) (omega arith) in
      let r = over_right (w - f x) xs ys (omega arith) in
      let e : w - f x - sum_by f xs ≡ w - sum_by f (x ∷ xs) = omega arith in
      let i = ap (λ m. over f m ys) e in
      omega arith

  module _ (w : ℕ) (xs : List E) (e : E) (ys : List E) (h : sum_by f xs ≤ w) where
    pub over_element : w - sum_by f xs < f e → over f w (xs ++ (e ∷ ys)) ≡ length xs
    over_element l = let a = over_right w xs (e ∷ ys) h in let b = over_here (w - sum_by f xs) e ys l in omega arith

    pub over_rest : f e ≤ w - sum_by f xs → over f w (xs ++ (e ∷ ys)) ≡ length xs + 1 + over f (w - sum_by f xs - f e) ys
    over_rest l = let a = over_right w xs (e ∷ ys) h in let b = over_past (w - sum_by f xs) e ys l in omega arith

module _ {E T : Type 0} {k : Operations E T} (h : Laws k) where
  few_weigh : (xs : List E) → sum_by (weight_of k) xs ≤ 65535 * length xs
  few_weigh [] = omega arith
  few_weigh (x ∷ xs) = let s = sum_by-cons (weight_of k) x xs in let i = few_weigh xs in let j = h.small x in omega arith

  -- no sum of few weights is held
  pub weight_is : (xs : List E) → length xs ≤ 4096 → k.weight (total_of k xs) ≡ sum_by (weight_of k) xs
  weight_is [] l = h.none
  weight_is (x ∷ xs) l =
      let s = sum_by-cons (weight_of k) x xs in
      let i = weight_is xs (omega arith) in
      let j = h.small x in
      let n = few_weigh xs in
      let t = h.sum (k.of x) (total_of k xs) (of x) (sum_lawful h xs) in
      omega arith

  pub weight_below : (s : Shape E T) → Totalled k s → size s ≤ 4096 → k.weight (top_total k s) ≡ sum_by (weight_of k) (elements s)
  weight_below s t l = ap k.weight (mark_is h s t) ∙ weight_is (elements s) (let n = length-elements s in omega arith)

  -- the two ways to say which place is sought agree
  pub over_first : (w : ℕ) (t : T) (xs : List E) → Lawful k t → k.weight t + 65535 * length xs ≤ 4294967295 → k.weight t ≤ w → first_over k w t xs ≡ over (weight_of k) (w - k.weight t) xs
  over_first w t [] p l le = refl
  over_first w t (x ∷ xs) p l le =
      let f = weight_of k in
      let j = h.small x in
      let u = k.join t (k.of x) in
      let m : k.weight u ≡ k.weight t + f x = let s = h.sum t (k.of x) p (of x) in omega arith in
      ⊎_elim
      (λ q. cond-true {A = ℕ} (ltb w (k.weight u)) 0 _ (lt-ltb w (k.weight u) (omega arith)) ∙ sym (over_here f (w - k.weight t) x xs q))
      (λ q.
      let e : w - k.weight u ≡ w - k.weight t - f x = omega arith in
      cond-false {A = ℕ} (ltb w (k.weight u)) 0 _ (le-ltb w (k.weight u) (omega arith)) ∙ ap (λ n. 1 + n) (over_first w u xs (join t (k.of x) p (of x)) (omega arith) (omega arith) ∙ ap (λ m. over f m xs) e) ∙ sym (over_past f (w - k.weight t) x xs q))
      (cases_lt (w - k.weight t) (f x))
