-- Lists written over others.
use Rattle.std.proofs.Common.{◌≡◌, ℕ, zero, suc, ◌-◌, ◌<◌, ◌≤◌, min, List, [], ◌∷◌, ◌++◌, length, take, drop, set, sym, refl, ap, ◌∙◌, ⊎_elim, arith, length-drop}
use Rattle.std.proofs.lemmas.List.{length-take-le, take_all, drop_all}
use Rattle.std.proofs.lemmas.Bool.{cases_lt}
use Rattle.tree.specs.Plain.{copied}

-- one element written at the front
pub front_set : {E : Type 0} (xs : List E) (x : E) → 0 < length xs → take 1 (set xs 0 x) ≡ x ∷ []
front_set [] x h = absurd (omega arith)
front_set (y ∷ xs) x h = refl

-- all behind the first
pub length-tail : {E : Type 0} (xs : List E) → length (take (length xs - 1) (drop 1 xs)) ≡ length xs - 1
length-tail xs = let n = length-drop 1 xs in length-take-le (length xs - 1) (drop 1 xs) (omega arith)

module _ {E : Type 0} (xs : List E) (first : ℕ) (out : List E) where
  -- nothing is there to be copied
  pub copy_none : length xs ≤ first → out ≡ copied xs first out
  copy_none h =
      let z : length xs - first ≡ 0 = omega arith in
      sym (ap (λ l. take (length out) l ++ drop (length xs - first) out) (drop_all first xs h) ∙ ap (λ l. l ++ drop (length xs - first) out) (take_nil (length out)) ∙ ap (λ n. drop n out) z)
    where
      take_nil : (n : ℕ) → ◌≡◌ {A = List E} (take n []) []
      take_nil zero = refl
      take_nil (suc n) = refl

  -- as many as are there and fit
  pub copy_fits : (n : ℕ) → n ≡ min (length out) (length xs - first) → first ≤ length xs → take n (drop first xs) ++ drop n out ≡ copied xs first out
  copy_fits n is h =
      let l = length-drop first xs in
      ⊎_elim
      (λ (u : length out < length xs - first).
      let all : n ≡ length out = omega arith in
      ap (λ i. take i (drop first xs) ++ drop n out) all
      ∙ ap (λ r. take (length out) (drop first xs) ++ r) (drop_all n out (omega arith) ∙ sym (drop_all (length xs - first) out (omega arith))))
      (λ (u : length xs - first ≤ length out).
      let all : n ≡ length xs - first = omega arith in
      ap (λ i. take n (drop first xs) ++ drop i out) all
      ∙ ap (λ r. r ++ drop (length xs - first) out) (take_all n (drop first xs) (omega arith) ∙ sym (take_all (length out) (drop first xs) (omega arith))))
      (cases_lt (length out) (length xs - first))
