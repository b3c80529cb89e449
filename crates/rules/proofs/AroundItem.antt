-- The L2 order around an item, by parts.
use Rattle.std.proofs.Common.{◌≡◌, ℕ, ◌+◌, ◌<◌, ◌≤◌, List, [], ◌∷◌, ◌++◌, reverse, sum_by, refl, ap, ◌∙◌, append_assoc, arith}
use mathlib.Core.List.{reverse-append, reverse-reverse, reverse-cons}
use Rattle.std.specs.List.{AllByRecursion}
use Rattle.std.proofs.lemmas.Bool.{eq-eqb, ne_eqb}
use Rattle.std.proofs.lemmas.List.Sums.{sum_by-append}
use Rattle.std.proofs.ByRecursion.{All-append}
use Rattle.rules.specs.Order.{reversed}
use Rattle.rules.specs.Order.{before}
use Rattle.rules.proofs.Reversing.{Begins, Ends, turned_all, cut_at, cut_out, sum_turned, all_turned, begins_higher, ends_higher, begins_still, ends_still, sum-reverse, all_reverse}

abbrev pub Apart : ℕ → List ℕ → Type 0
Apart p xs = AllByRecursion (λ q. p ≡ q → ⊥) xs

pub before_is : (p : ℕ) (xs ys : List ℕ) → Apart p xs → before p (xs ++ (p ∷ ys)) ≡ xs
before_is p [] ys h = rw (eq-eqb p p refl, before)
before_is p (x ∷ xs) ys h = rw (ne_eqb p x h.0, before) (ap (λ l. x ∷ l) (before_is p xs ys h.1))

module _ (level : ℕ → ℕ) where
  abbrev pub twice : List ℕ → List ℕ
  twice xs = reversed level 1 (reversed level 2 xs)

  pub sum_twice : (f : ℕ → ℕ) (xs : List ℕ) → sum_by f (twice xs) ≡ sum_by f xs
  sum_twice f xs = sum_turned level 1 f (reversed level 2 xs) [] ∙ omega (arith, sum_turned level 2 f xs [])

  pub all_twice : (P : ℕ → Type 0) (xs : List ℕ) → AllByRecursion P xs → AllByRecursion P (twice xs)
  all_twice P xs h = all_turned level 1 P (reversed level 2 xs) [] tt (all_turned level 2 P xs [] tt h)

  -- a whole stretch of level 1 or more
  pub outer : {us : List ℕ} → Ends level 1 us → (zs vs : List ℕ) → Begins level 1 vs → AllByRecursion (λ z. 1 ≤ level z) zs
      → twice (us ++ (zs ++ vs)) ≡ twice us ++ (reverse (reversed level 2 zs) ++ twice vs)
  outer {us} e zs vs b h =
      ap (reversed level 1) (cut_out level 2 (ends_higher level 1 2 (omega arith) e) zs vs (begins_higher level 1 2 (omega arith) vs b))
      ∙ cut_out level 1 (ends_still level 1 2 (omega arith) e) (reversed level 2 zs) (reversed level 2 vs) (begins_still level 1 2 (omega arith) vs b)
      ∙ ap (λ l. twice us ++ (l ++ twice vs)) (turned_all level 1 (reversed level 2 zs) [] (all_turned level 2 (λ z. 1 ≤ level z) zs [] tt h))

  -- an item of level 1 in it
  pub inner_one : (ms : List ℕ) (p : ℕ) (ns : List ℕ) → level p < 2
      → reverse (reversed level 2 (ms ++ (p ∷ ns))) ≡ reverse (reversed level 2 ns) ++ (p ∷ reverse (reversed level 2 ms))
  inner_one ms p ns h =
      ap reverse (cut_at level 2 ms p ns h)
      ∙ reverse-append (reversed level 2 ms) (p ∷ reversed level 2 ns)
      ∙ ap (λ l. l ++ reverse (reversed level 2 ms)) (reverse-cons p (reversed level 2 ns))
      ∙ append_assoc (reverse (reversed level 2 ns)) (p ∷ []) (reverse (reversed level 2 ms))

  -- a whole stretch of level 2 in it: it stands as it was
  pub inner_two : {ms : List ℕ} → Ends level 2 ms → (zs ns : List ℕ) → Begins level 2 ns → AllByRecursion (λ z. 2 ≤ level z) zs
      → reverse (reversed level 2 (ms ++ (zs ++ ns))) ≡ reverse (reversed level 2 ns) ++ (zs ++ reverse (reversed level 2 ms))
  inner_two {ms} e zs ns b h =
      ap reverse (cut_out level 2 e zs ns b ∙ ap (λ l. reversed level 2 ms ++ (l ++ reversed level 2 ns)) (turned_all level 2 zs [] h))
      ∙ reverse-append (reversed level 2 ms) (reverse zs ++ reversed level 2 ns)
      ∙ ap (λ l. l ++ reverse (reversed level 2 ms)) (reverse-append (reverse zs) (reversed level 2 ns) ∙ ap (λ l. reverse (reversed level 2 ns) ++ l) (reverse-reverse zs))
      ∙ append_assoc (reverse (reversed level 2 ns)) zs (reverse (reversed level 2 ms))

  module _ (w : ℕ → ℕ) (p : ℕ) where
    sum_back : (ns : List ℕ) → sum_by w (reverse (reversed level 2 ns)) ≡ sum_by w ns
    sum_back ns = omega (arith, sum-reverse w (reversed level 2 ns) [], sum_turned level 2 w ns [])

    apart_back : (ns : List ℕ) → Apart p ns → Apart p (reverse (reversed level 2 ns))
    apart_back ns h = all_reverse (λ q. p ≡ q → ⊥) (reversed level 2 ns) [] (all_turned level 2 (λ q. p ≡ q → ⊥) ns [] tt h) tt

    pub column_zero : (us vs : List ℕ) → level p < 1 → Apart p us → sum_by w (before p (twice (us ++ (p ∷ vs)))) ≡ sum_by w us
    column_zero us vs h a =
        ap (λ l. sum_by w (before p l)) (ap (reversed level 1) (cut_at level 2 us p vs (omega arith)) ∙ cut_at level 1 (reversed level 2 us) p (reversed level 2 vs) h)
        ∙ ap (sum_by w) (before_is p (twice us) (twice vs) (all_twice (λ q. p ≡ q → ⊥) us a))
        ∙ sum_twice w us

    pub column_one : {us : List ℕ} → Ends level 1 us → (ms ns vs : List ℕ) → Begins level 1 vs
        → level p < 2 → AllByRecursion (λ z. 1 ≤ level z) (ms ++ (p ∷ ns)) → Apart p us → Apart p ns
        → sum_by w (before p (twice (us ++ ((ms ++ (p ∷ ns)) ++ vs)))) ≡ sum_by w us + sum_by w ns
    column_one {us} e ms ns vs b l h au an =
        let back : List ℕ = reverse (reversed level 2 ns) in
        let rest : List ℕ = reverse (reversed level 2 ms) in
        let shape : twice (us ++ ((ms ++ (p ∷ ns)) ++ vs)) ≡ (twice us ++ back) ++ (p ∷ (rest ++ twice vs)) =
        outer e (ms ++ (p ∷ ns)) vs b h ∙ ap (λ l. twice us ++ (l ++ twice vs)) (inner_one ms p ns l) ∙ simp append_assoc in
        ap (λ l. sum_by w (before p l)) shape
        ∙ ap (sum_by w) (before_is p (twice us ++ back) (rest ++ twice vs) (All-append (λ q. p ≡ q → ⊥) (twice us) back (all_twice (λ q. p ≡ q → ⊥) us au) (apart_back ns an)))
        ∙ sum_by-append w (twice us) back
        ∙ omega (arith, sum_twice w us, sum_back ns)

    pub column_two : {us : List ℕ} → Ends level 1 us → {ms : List ℕ} → Ends level 2 ms → (cs ds ns vs : List ℕ)
        → Begins level 2 ns → Begins level 1 vs → AllByRecursion (λ z. 1 ≤ level z) (ms ++ ((cs ++ (p ∷ ds)) ++ ns)) → AllByRecursion (λ z. 2 ≤ level z) (cs ++ (p ∷ ds))
        → Apart p us → Apart p ns → Apart p cs
        → sum_by w (before p (twice (us ++ ((ms ++ ((cs ++ (p ∷ ds)) ++ ns)) ++ vs)))) ≡ sum_by w us + sum_by w ns + sum_by w cs
    column_two {us} e {ms} f cs ds ns vs bn bv h1 h2 au an ac =
        let back : List ℕ = reverse (reversed level 2 ns) in
        let rest : List ℕ = reverse (reversed level 2 ms) in
        let shape : twice (us ++ ((ms ++ ((cs ++ (p ∷ ds)) ++ ns)) ++ vs)) ≡ (twice us ++ (back ++ cs)) ++ (p ∷ (ds ++ (rest ++ twice vs))) =
        outer e (ms ++ ((cs ++ (p ∷ ds)) ++ ns)) vs bv h1 ∙ ap (λ l. twice us ++ (l ++ twice vs)) (inner_two f (cs ++ (p ∷ ds)) ns bn h2) ∙ simp append_assoc in
        ap (λ l. sum_by w (before p l)) shape
        ∙ ap (sum_by w) (before_is p (twice us ++ (back ++ cs)) (ds ++ (rest ++ twice vs)) (All-append (λ q. p ≡ q → ⊥) (twice us) (back ++ cs) (all_twice (λ q. p ≡ q → ⊥) us au) (All-append (λ q. p ≡ q → ⊥) back cs (apart_back ns an) ac)))
        ∙ sum_by-append w (twice us) (back ++ cs)
        ∙ omega (arith, sum_twice w us, sum_back ns, sum_by-append w back cs)
