-- The columns along the L2 order.
use Rattle.std.proofs.Common.{◌≡◌, ℕ, zero, suc, ◌+◌, ◌<◌, ◌≤◌, cond, eqb, List, [], ◌∷◌, ◌++◌, length, get_or, take, drop, sum_by, sym, refl, ap, ◌∙◌, ⊎_elim, arith}
use Rattle.std.proofs.lemmas.Bool.{eq-eqb, ne_eqb, cases_eq}
use Rattle.std.proofs.lemmas.List.Sums.{sum_by-cons, sum_by-append}
use Rattle.std.proofs.lemmas.List.{take-append-drop, drop_more}
use Rattle.rules.specs.Order.{places, reversed, reordered, highest, L2, at}
use Rattle.rules.specs.Order.{before}
use Rattle.rules.specs.Stretches.{ItemsStay, ColumnsAlongTheOrder}
use Rattle.rules.proofs.AroundItem.{Apart, before_is}
use Rattle.rules.proofs.Reversing.{sum_turned}

-- the items stay the same, at every level
pub items_stay : ItemsStay
unfolding L2
items_stay levels f = down (highest levels) (places 0 (length levels))
  where
    down : (k : ℕ) (xs : List ℕ) → sum_by f (reordered (at levels) k xs) ≡ sum_by f xs
    down zero xs = refl
    down (suc k) xs = down k (reversed (at levels) (suc k) xs) ∙ omega (arith, sum_turned (at levels) (suc k) f xs [])

-- 1 at p, else 0: its sum counts how often p is there
one : ℕ → ℕ → ℕ
one p q = cond (eqb p q) 1 0

one_same : (p q : ℕ) → p ≡ q → one p q ≡ 1
unfolding one
one_same p q e = rw (eq-eqb p q e)

one_other : (p q : ℕ) → (p ≡ q → ⊥) → one p q ≡ 0
unfolding one
one_other p q h = rw (ne_eqb p q h)

none_below : (p s n : ℕ) → p < s → sum_by (one p) (places s n) ≡ 0
none_below p s zero h = refl
none_below p s (suc n) h =
    omega (arith, sum_by-cons (one p) s (places (suc s) n), one_other p s (λ e. omega arith), none_below p (suc s) n (omega arith))

once : (p s n : ℕ) → sum_by (one p) (places s n) ≤ 1
once p s zero = omega arith
once p s (suc n) =
    ⊎_elim
    (λ e. omega (arith, sum_by-cons (one p) s (places (suc s) n), one_same p s e, none_below p (suc s) n (omega arith)))
    (λ d. omega (arith, sum_by-cons (one p) s (places (suc s) n), one_other p s d, once p (suc s) n))
    (cases_eq p s)

apart_from_count : (p : ℕ) (xs : List ℕ) → sum_by (one p) xs ≡ 0 → Apart p xs
apart_from_count p [] h = tt
apart_from_count p (x ∷ xs) h =
    (λ e. omega (arith, sum_by-cons (one p) x xs, one_same p x e), apart_from_count p xs (omega (arith, sum_by-cons (one p) x xs)))

length-sum : (xs : List ℕ) → sum_by (λ _. 1) xs ≡ length xs
length-sum [] = refl
length-sum (x ∷ xs) = omega (arith, sum_by-cons (λ (_ : ℕ). 1) x xs, length-sum xs)

length-places : (s n : ℕ) → length (places s n) ≡ n
length-places s zero = refl
length-places s (suc n) = omega (arith, length-places (suc s) n)

pub length-L2 : (levels : List ℕ) → length (L2 levels) ≡ length levels
length-L2 levels =
    sym (length-sum (L2 levels)) ∙ items_stay levels (λ _. 1) ∙ length-sum (places 0 (length levels)) ∙ length-places 0 (length levels)

pub columns_along_the_order : ColumnsAlongTheOrder
columns_along_the_order levels widths i h =
    let v : List ℕ = L2 levels in
    let p : ℕ = get_or v i 0 in
    let lt : i < length v = omega (arith, length-L2 levels) in
    let split : v ≡ take i v ++ (p ∷ drop (i + 1) v) = sym (take-append-drop i v) ∙ ap (λ l. take i v ++ l) (drop_more v i 0 lt) in
    let count : sum_by (one p) (take i v) + sum_by (one p) (p ∷ drop (i + 1) v) ≤ 1 =
    omega (arith, once p 0 (length levels), items_stay levels (one p), ap (sum_by (one p)) split, sum_by-append (one p) (take i v) (p ∷ drop (i + 1) v)) in
    let none : sum_by (one p) (take i v) ≡ 0 = omega (arith, count, sum_by-cons (one p) p (drop (i + 1) v), one_same p p refl) in
    ap (sum_by (at widths)) (ap (before p) split ∙ before_is p (take i v) (drop (i + 1) v) (apart_from_count p (take i v) none))
