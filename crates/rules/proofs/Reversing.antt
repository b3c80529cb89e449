-- Reversal at one level.
use Rattle.std.proofs.Common.{◌≡◌, ℕ, ◌+◌, ◌<◌, ◌≤◌, List, [], ◌∷◌, ◌++◌, sum_by, sym, refl, ap, ◌∙◌, subst, ⊎_elim, append_assoc, append-nil, arith}
use mathlib.Core.List.{reverse_aux}
use Rattle.std.specs.List.{AllByRecursion}
use Rattle.std.proofs.lemmas.Bool.{le-leb, lt-leb, cases_lt}
use Rattle.std.proofs.lemmas.List.Sums.{sum_by-cons, sum_by-append}
use Rattle.std.proofs.ByRecursion.{All-append}
use Rattle.rules.specs.Order.{turned, reversed}

-- the first item, where there is one, is below level k
abbrev pub Begins : (ℕ → ℕ) → ℕ → List ℕ → Type 0
Begins level k [] = Unit {0}
Begins level k (x ∷ xs) = level x < k

-- the last item, where there is one, is below level k
pub data Ends (level : ℕ → ℕ) (k : ℕ) : List ℕ → Type 0 where
  none : Ends level k []
  last : (xs : List ℕ) (x : ℕ) → level x < k → Ends level k (xs ++ (x ∷ []))

module _ (level : ℕ → ℕ) (k : ℕ) where
  pub turned_high : (run : List ℕ) (x : ℕ) (xs : List ℕ) → k ≤ level x → turned level k run (x ∷ xs) ≡ turned level k (x ∷ run) xs
  turned_high run x xs h = rw (le-leb k (level x) h, turned)

  pub turned_low : (run : List ℕ) (x : ℕ) (xs : List ℕ) → level x < k → turned level k run (x ∷ xs) ≡ run ++ (x ∷ reversed level k xs)
  turned_low run x xs h = rw (lt-leb k (level x) h, turned)

  -- a list of high items alone
  pub turned_all : (xs run : List ℕ) → AllByRecursion (λ x. k ≤ level x) xs → turned level k run xs ≡ reverse_aux xs run
  turned_all [] run h = refl
  turned_all (x ∷ xs) run h = turned_high run x xs h.0 ∙ turned_all xs (x ∷ run) h.1

  -- no sequence goes past a low item
  pub cut : (xs run ys : List ℕ) → Begins level k ys → turned level k run (xs ++ ys) ≡ turned level k run xs ++ reversed level k ys
  cut [] run [] h = sym (append-nil run)
  cut [] run (y ∷ ys) h = turned_low run y ys h ∙ ap (λ l. run ++ l) (sym (turned_low [] y ys h))
  cut (x ∷ xs) run ys h =
      ⊎_elim
      (λ low. turned_low run x (xs ++ ys) low ∙ ap (λ l. run ++ (x ∷ l)) (cut xs [] ys h) ∙ sym (append_assoc run (x ∷ reversed level k xs) (reversed level k ys)) ∙ ap (λ l. l ++ reversed level k ys) (sym (turned_low run x xs low)))
      (λ high. turned_high run x (xs ++ ys) high ∙ cut xs (x ∷ run) ys h ∙ ap (λ l. l ++ reversed level k ys) (sym (turned_high run x xs high)))
      (cases_lt (level x) k)

  pub cut_at : (xs : List ℕ) (y : ℕ) (ys : List ℕ) → level y < k → reversed level k (xs ++ (y ∷ ys)) ≡ reversed level k xs ++ (y ∷ reversed level k ys)
  cut_at xs y ys h = cut xs [] (y ∷ ys) h ∙ ap (λ l. reversed level k xs ++ l) (turned_low [] y ys h)

  pub cut_after : {xs : List ℕ} → Ends level k xs → (ys : List ℕ) → reversed level k (xs ++ ys) ≡ reversed level k xs ++ reversed level k ys
  cut_after none ys = refl
  cut_after (last xs x h) ys =
      ap (reversed level k) (append_assoc xs (x ∷ []) ys)
      ∙ cut_at xs x ys h
      ∙ sym (append_assoc (reversed level k xs) (x ∷ []) (reversed level k ys))
      ∙ ap (λ l. l ++ reversed level k ys) (sym (cut_at xs x [] h))

  -- a part between two boundaries is reordered by itself
  pub cut_out : {xs : List ℕ} → Ends level k xs → (ys zs : List ℕ) → Begins level k zs
      → reversed level k (xs ++ (ys ++ zs)) ≡ reversed level k xs ++ (reversed level k ys ++ reversed level k zs)
  cut_out {xs} e ys zs b = cut_after e (ys ++ zs) ∙ ap (λ l. reversed level k xs ++ l) (cut ys [] zs b)

  -- the items stay the same
  pub sum_turned : (f : ℕ → ℕ) (xs run : List ℕ) → sum_by f (turned level k run xs) ≡ sum_by f run + sum_by f xs
  sum_turned f [] run = omega arith
  sum_turned f (x ∷ xs) run =
      ⊎_elim
      (λ low. ap (sum_by f) (turned_low run x xs low) ∙ sum_by-append f run (x ∷ reversed level k xs) ∙ omega (arith, sum_by-cons f x xs, sum_by-cons f x (reversed level k xs), sum_turned f xs []))
      (λ high. ap (sum_by f) (turned_high run x xs high) ∙ omega (arith, sum_turned f xs (x ∷ run), sum_by-cons f x xs, sum_by-cons f x run))
      (cases_lt (level x) k)

  pub all_turned : (P : ℕ → Type 0) (xs run : List ℕ) → AllByRecursion P run → AllByRecursion P xs → AllByRecursion P (turned level k run xs)
  all_turned P [] run r h = r
  all_turned P (x ∷ xs) run r h =
      ⊎_elim
      (λ low. subst (AllByRecursion P) (sym (turned_low run x xs low)) (All-append P run (x ∷ reversed level k xs) r (h.0, all_turned P xs [] tt h.1)))
      (λ high. subst (AllByRecursion P) (sym (turned_high run x xs high)) (all_turned P xs (x ∷ run) (h.0, r) h.1))
      (cases_lt (level x) k)

-- boundaries of a lower level are boundaries, and stay where they are
module _ (level : ℕ → ℕ) (j k : ℕ) (le : j ≤ k) where
  pub begins_higher : (xs : List ℕ) → Begins level j xs → Begins level k xs
  begins_higher [] h = tt
  begins_higher (x ∷ xs) h = omega arith

  pub ends_higher : {xs : List ℕ} → Ends level j xs → Ends level k xs
  ends_higher none = none
  ends_higher (last xs x h) = last xs x (omega arith)

  pub begins_still : (xs : List ℕ) → Begins level j xs → Begins level j (reversed level k xs)
  begins_still [] h = tt
  begins_still (x ∷ xs) h = subst (Begins level j) (sym (turned_low level k [] x xs (omega arith))) h

  pub ends_still : {xs : List ℕ} → Ends level j xs → Ends level j (reversed level k xs)
  ends_still none = none
  ends_still (last xs x h) = subst (Ends level j) (sym (cut_at level k xs x [] (omega arith))) (last (reversed level k xs) x h)

-- plain reversal
pub sum-reverse : (f : ℕ → ℕ) (xs run : List ℕ) → sum_by f (reverse_aux xs run) ≡ sum_by f xs + sum_by f run
sum-reverse f [] run = omega arith
sum-reverse f (x ∷ xs) run = sum-reverse f xs (x ∷ run) ∙ omega (arith, sum_by-cons f x xs, sum_by-cons f x run)

pub all_reverse : (P : ℕ → Type 0) (xs run : List ℕ) → AllByRecursion P xs → AllByRecursion P run → AllByRecursion P (reverse_aux xs run)
all_reverse P [] run h r = r
all_reverse P (x ∷ xs) run h r = all_reverse P xs (x ∷ run) h.1 (h.0, r)
