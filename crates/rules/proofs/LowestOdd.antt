-- Down to the lowest odd level, as the standard words it, or down to level 1: the same.
use Rattle.std.proofs.Common.{◌≡◌, ℕ, zero, suc, ◌+◌, ◌*◌, ◌<◌, ◌≤◌, List, [], ◌∷◌, ◌++◌, length, sym, refl, ap, ◌∙◌, ap₂, ⊎_elim, arith}
use mathlib.Core.List.{reverse_aux, reverse_aux-eq}
use Rattle.std.specs.List.{AllByRecursion}
use Rattle.std.proofs.lemmas.Bool.{le-leb, lt-leb, cases_lt}
use Rattle.rules.specs.Order.{places, turned, reversed, reordered, highest, L2, at}
use Rattle.rules.specs.Stretches.{reordered_to, LowestOdd}
use Rattle.rules.proofs.Reversing.{turned_high, turned_low, turned_all, cut_at}

-- a reversal undoes itself
module _ (level : ℕ → ℕ) (k : ℕ) where
  undone : (xs run : List ℕ) → AllByRecursion (λ x. k ≤ level x) run → reversed level k (turned level k run xs) ≡ reverse_aux run xs
  undone [] run h = turned_all level k run [] h
  undone (x ∷ xs) run h =
      ⊎_elim
      (λ low.
      ap (reversed level k) (turned_low level k run x xs low)
      ∙ cut_at level k run x (reversed level k xs) low
      ∙ ap₂ (λ a b. a ++ (x ∷ b)) (turned_all level k run [] h) (undone xs [] tt)
      ∙ sym (reverse_aux-eq run (x ∷ xs)))
      (λ high. ap (reversed level k) (turned_high level k run x xs high) ∙ undone xs (x ∷ run) (high, h))
      (cases_lt (level x) k)

  pub reversed_twice : (xs : List ℕ) → reversed level k (reversed level k xs) ≡ xs
  reversed_twice xs = undone xs [] tt

  -- where no item is at level k, the next level up does the same
  next_up : ((x : ℕ) → level x ≡ k → ⊥) → (xs run : List ℕ) → turned level k run xs ≡ turned level (suc k) run xs
  next_up odd [] run = refl
  next_up odd (x ∷ xs) run =
      ⊎_elim
      (λ low. turned_low level k run x xs low ∙ ap (λ l. run ++ (x ∷ l)) (next_up odd xs []) ∙ sym (turned_low level (suc k) run x xs (omega arith)))
      (λ high. turned_high level k run x xs high ∙ next_up odd xs (x ∷ run) ∙ sym (turned_high level (suc k) run x xs (omega (arith, odd x))))
      (cases_lt (level x) k)

-- below the lowest odd level, 2 * j + 1, nothing is changed
below : (level : ℕ → ℕ) (j : ℕ) → ((x i : ℕ) → level x ≡ 2 * i + 1 → j ≤ i) → (xs : List ℕ) → reordered level (2 * j) xs ≡ xs
below level zero odd xs = refl
below level (suc j) odd xs =
    let e : 2 * suc j ≡ suc (suc (2 * j)) = omega arith in
    let free : (x : ℕ) → level x ≡ suc (2 * j) → ⊥ = λ x h. let le : suc j ≤ j = odd x j (omega arith) in omega arith in
    ap (λ n. reordered level n xs) e
    ∙ ap (reordered level (2 * j)) (next_up level (suc (2 * j)) free (reversed level (suc (suc (2 * j))) xs) [] ∙ reversed_twice level (suc (suc (2 * j))) xs)
    ∙ below level j (λ x i h. let le : suc j ≤ i = odd x i h in omega arith) xs

down : (level : ℕ → ℕ) (j : ℕ) → ((x i : ℕ) → level x ≡ 2 * i + 1 → j ≤ i) → (k : ℕ) → 2 * j ≤ k → (xs : List ℕ)
    → reordered level k xs ≡ reordered_to level (2 * j + 1) k xs
down level j odd zero h xs = refl
down level j odd (suc k) h xs =
    ⊎_elim
    (λ lt.
    let e : suc k ≡ 2 * j = omega arith in
    ap (λ n. reordered level n xs) e ∙ below level j odd xs ∙ sym (reached lt))
    (λ le. down level j odd k (omega arith) (reversed level (suc k) xs) ∙ sym (rw (le-leb (2 * j + 1) (suc k) le, reordered_to)))
    (cases_lt (suc k) (2 * j + 1))
  where
    reached : suc k < 2 * j + 1 → reordered_to level (2 * j + 1) (suc k) xs ≡ xs
    reached lt = rw (lt-leb (2 * j + 1) (suc k) lt, reordered_to)

pub lowest_odd : LowestOdd
unfolding L2
lowest_odd levels j odd h = down (at levels) j (λ x i e. odd x i e) (highest levels) h (places 0 (length levels))
