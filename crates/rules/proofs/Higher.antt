-- The column of an item at level 2 or below, whatever the levels of the others: higher reversals stay on one side of it.
use Rattle.std.proofs.Common.{◌≡◌, ℕ, zero, suc, ◌+◌, ◌<◌, ◌≤◌, List, [], ◌∷◌, ◌++◌, sum_by, refl, ap, ◌∙◌, subst, ap₂, arith}
use Rattle.std.specs.List.{AllByRecursion}
use Rattle.rules.specs.Order.{reversed, reordered, before}
use Rattle.rules.proofs.Reversing.{Begins, Ends, cut_at, cut_out, sum_turned, all_turned, begins_higher, ends_higher, begins_still, ends_still}
use Rattle.rules.proofs.AroundItem.{Apart, twice, column_zero, column_one, column_two}

module _ (level : ℕ → ℕ) where
  -- reversals from level k + 2 down to level 3
  abbrev pub higher : ℕ → List ℕ → List ℕ
  higher zero xs = xs
  higher (suc k) xs = higher k (reversed level (suc (suc (suc k))) xs)

  pub all_levels : (k : ℕ) (xs : List ℕ) → reordered level (suc (suc k)) xs ≡ twice level (higher k xs)
  all_levels zero xs = refl
  all_levels (suc k) xs = all_levels k (reversed level (suc (suc (suc k))) xs)

  -- the items stay the same
  higher_sum : (f : ℕ → ℕ) (k : ℕ) (xs : List ℕ) → sum_by f (higher k xs) ≡ sum_by f xs
  higher_sum f zero xs = refl
  higher_sum f (suc k) xs = higher_sum f k (reversed level (suc (suc (suc k))) xs) ∙ omega (arith, sum_turned level (suc (suc (suc k))) f xs [])

  higher_all : (P : ℕ → Type 0) (k : ℕ) (xs : List ℕ) → AllByRecursion P xs → AllByRecursion P (higher k xs)
  higher_all P zero xs h = h
  higher_all P (suc k) xs h = higher_all P k (reversed level (suc (suc (suc k))) xs) (all_turned level (suc (suc (suc k))) P xs [] tt h)

  -- a low item parts them
  higher_at : (k : ℕ) (us : List ℕ) (p : ℕ) (vs : List ℕ) → level p < 3 → higher k (us ++ (p ∷ vs)) ≡ higher k us ++ (p ∷ higher k vs)
  higher_at zero us p vs h = refl
  higher_at (suc k) us p vs h =
      ap (higher k) (cut_at level (suc (suc (suc k))) us p vs (omega arith))
      ∙ higher_at k (reversed level (suc (suc (suc k))) us) p (reversed level (suc (suc (suc k))) vs) h

  module _ (j : ℕ) (le : j ≤ 2) where
    higher_ends : (k : ℕ) {us : List ℕ} → Ends level j us → Ends level j (higher k us)
    higher_ends zero e = e
    higher_ends (suc k) e = higher_ends k (ends_still level j (suc (suc (suc k))) (omega arith) e)

    higher_begins : (k : ℕ) (vs : List ℕ) → Begins level j vs → Begins level j (higher k vs)
    higher_begins zero vs b = b
    higher_begins (suc k) vs b = higher_begins k (reversed level (suc (suc (suc k))) vs) (begins_still level j (suc (suc (suc k))) (omega arith) vs b)

    -- a stretch is reordered by itself
    higher_out : (k : ℕ) {us : List ℕ} → Ends level j us → (zs vs : List ℕ) → Begins level j vs
        → higher k (us ++ (zs ++ vs)) ≡ higher k us ++ (higher k zs ++ higher k vs)
    higher_out zero e zs vs b = refl
    higher_out (suc k) e zs vs b =
        ap (higher k) (cut_out level (suc (suc (suc k))) (ends_higher level j (suc (suc (suc k))) (omega arith) e) zs vs (begins_higher level j (suc (suc (suc k))) (omega arith) vs b))
        ∙ higher_out k (ends_still level j (suc (suc (suc k))) (omega arith) e) (reversed level (suc (suc (suc k))) zs) (reversed level (suc (suc (suc k))) vs) (begins_still level j (suc (suc (suc k))) (omega arith) vs b)

  module _ (w : ℕ → ℕ) (p k : ℕ) where
    -- the widths before p, after all reversals
    abbrev pub column_in : List ℕ → ℕ
    column_in xs = sum_by w (before p (twice level (higher k xs)))

    apart : (us : List ℕ) → Apart p us → Apart p (higher k us)
    apart us a = higher_all (λ q. p ≡ q → ⊥) k us a

    pub at_level_zero : (us vs : List ℕ) → level p < 1 → Apart p us → column_in (us ++ (p ∷ vs)) ≡ sum_by w us
    at_level_zero us vs h a =
        ap (λ l. sum_by w (before p (twice level l))) (higher_at k us p vs (omega arith))
        ∙ column_zero level w p (higher k us) (higher k vs) h (apart us a)
        ∙ higher_sum w k us

    pub at_level_one : {us : List ℕ} → Ends level 1 us → (ms ns vs : List ℕ) → Begins level 1 vs
        → level p < 2 → AllByRecursion (λ z. 1 ≤ level z) (ms ++ (p ∷ ns)) → Apart p us → Apart p ns
        → column_in (us ++ ((ms ++ (p ∷ ns)) ++ vs)) ≡ sum_by w us + sum_by w ns
    at_level_one {us} e ms ns vs b l h au an =
        let mid : higher k (ms ++ (p ∷ ns)) ≡ higher k ms ++ (p ∷ higher k ns) = higher_at k ms p ns (omega arith) in
        ap (λ l. sum_by w (before p (twice level l))) (higher_out 1 (omega arith) k e (ms ++ (p ∷ ns)) vs b ∙ ap (λ l. higher k us ++ (l ++ higher k vs)) mid)
        ∙ column_one level w p (higher_ends 1 (omega arith) k e) (higher k ms) (higher k ns) (higher k vs) (higher_begins 1 (omega arith) k vs b) l
        (subst (AllByRecursion (λ z. 1 ≤ level z)) mid (higher_all (λ z. 1 ≤ level z) k (ms ++ (p ∷ ns)) h)) (apart us au) (apart ns an)
        ∙ ap₂ ◌+◌ (higher_sum w k us) (higher_sum w k ns)

    pub at_level_two : {us : List ℕ} → Ends level 1 us → {ms : List ℕ} → Ends level 2 ms → (cs ds ns vs : List ℕ)
        → Begins level 2 ns → Begins level 1 vs → level p < 3 → AllByRecursion (λ z. 1 ≤ level z) (ms ++ ((cs ++ (p ∷ ds)) ++ ns)) → AllByRecursion (λ z. 2 ≤ level z) (cs ++ (p ∷ ds))
        → Apart p us → Apart p ns → Apart p cs
        → column_in (us ++ ((ms ++ ((cs ++ (p ∷ ds)) ++ ns)) ++ vs)) ≡ sum_by w us + sum_by w ns + sum_by w cs
    at_level_two {us} e {ms} f cs ds ns vs bn bv l h1 h2 au an ac =
        let mid : higher k (cs ++ (p ∷ ds)) ≡ higher k cs ++ (p ∷ higher k ds) = higher_at k cs p ds l in
        let inner : higher k (ms ++ ((cs ++ (p ∷ ds)) ++ ns)) ≡ higher k ms ++ ((higher k cs ++ (p ∷ higher k ds)) ++ higher k ns) =
        higher_out 2 (omega arith) k f (cs ++ (p ∷ ds)) ns bn ∙ ap (λ x. higher k ms ++ (x ++ higher k ns)) mid in
        ap (λ x. sum_by w (before p (twice level x))) (higher_out 1 (omega arith) k e (ms ++ ((cs ++ (p ∷ ds)) ++ ns)) vs bv ∙ ap (λ x. higher k us ++ (x ++ higher k vs)) inner)
        ∙ column_two level w p (higher_ends 1 (omega arith) k e) (higher_ends 2 (omega arith) k f) (higher k cs) (higher k ds) (higher k ns) (higher k vs)
        (higher_begins 2 (omega arith) k ns bn) (higher_begins 1 (omega arith) k vs bv)
        (subst (AllByRecursion (λ z. 1 ≤ level z)) inner (higher_all (λ z. 1 ≤ level z) k (ms ++ ((cs ++ (p ∷ ds)) ++ ns)) h1))
        (subst (AllByRecursion (λ z. 2 ≤ level z)) mid (higher_all (λ z. 2 ≤ level z) k (cs ++ (p ∷ ds)) h2))
        (apart us au) (apart ns an) (apart cs ac)
        ∙ ap₂ ◌+◌ (ap₂ ◌+◌ (higher_sum w k us) (higher_sum w k ns)) (higher_sum w k cs)
