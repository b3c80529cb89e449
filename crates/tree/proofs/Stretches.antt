-- A stretch of a list that is made of two parts and an element between them.
use Rattle.std.proofs.Common.{◌≡◌, ℕ, zero, suc, ◌+◌, ◌-◌, ◌≤◌, List, [], ◌∷◌, ◌++◌, length, take, drop, sym, ap, ◌∙◌, arith, length-drop}
use Rattle.std.specs.List.{between}
use Rattle.std.proofs.lemmas.List.{take_all, take-append-le, drop-append-le}

pub take_past : {X : Type 0} (xs ys : List X) (n r : ℕ) → n ≡ length xs + r → take n (xs ++ ys) ≡ xs ++ take r ys
take_past [] ys n r h = let e : n ≡ r = omega arith in ap (λ m. take m ys) e
take_past (x ∷ xs) ys zero r h = absurd (omega arith)
take_past (x ∷ xs) ys (suc n) r h = ap (λ l. x ∷ l) (take_past xs ys n r (omega arith))

pub drop_past : {X : Type 0} (xs ys : List X) (n r : ℕ) → n ≡ length xs + r → drop n (xs ++ ys) ≡ drop r ys
drop_past [] ys n r h = let e : n ≡ r = omega arith in ap (λ m. drop m ys) e
drop_past (x ∷ xs) ys zero r h = absurd (omega arith)
drop_past (x ∷ xs) ys (suc n) r h = drop_past xs ys n r (omega arith)

module _ {X : Type 0} (xs : List X) (e : X) (ys : List X) (first end : ℕ) where
  pub between_left : first ≤ end → end ≤ length xs → between first end (xs ++ (e ∷ ys)) ≡ between first end xs
  between_left h h' =
      let n = length-drop first xs in
      ap (take (end - first)) (drop-append-le first xs (e ∷ ys) (omega arith)) ∙ take-append-le (end - first) (drop first xs) (e ∷ ys) (omega arith)

  pub between_right : (f g : ℕ) → first ≤ end → first ≡ length xs + 1 + f → end ≡ length xs + 1 + g → between first end (xs ++ (e ∷ ys)) ≡ between f g ys
  between_right f g h u v =
      let n : end - first ≡ g - f = omega arith in
      ap (take (end - first)) (drop_past xs (e ∷ ys) first (suc f) (omega arith)) ∙ ap (λ m. take m (drop f ys)) n

  pub between_both : (g : ℕ) → first ≤ length xs → end ≡ length xs + 1 + g → between first end (xs ++ (e ∷ ys)) ≡ between first (length xs) xs ++ (e ∷ between 0 g ys)
  between_both g h v =
      let n = length-drop first xs in
      ap (take (end - first)) (drop-append-le first xs (e ∷ ys) h) ∙ take_past (drop first xs) (e ∷ ys) (end - first) (suc g) (omega arith)
      ∙ ap (λ l. l ++ (e ∷ take g ys)) (sym (take_all (length xs - first) (drop first xs) (omega arith))) ∙ ap (λ m. between first (length xs) xs ++ (e ∷ take m ys)) (let q : g ≡ g - 0 = omega arith in q)

pub between_whole : {X : Type 0} (xs : List X) (n : ℕ) → n ≡ length xs → between 0 n xs ≡ xs
between_whole xs n h = take_all (n - 0) xs (omega arith)

pub between_none : {X : Type 0} (xs : List X) (first end : ℕ) → first ≡ end → between first end xs ≡ []
between_none xs first end h = let z : end - first ≡ 0 = omega arith in ap (λ m. take m (drop first xs)) z
