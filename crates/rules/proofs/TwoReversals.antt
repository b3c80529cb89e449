-- With levels at most 2, two reversals make the L2 order.
use Rattle.std.proofs.Common.{◌≡◌, ℕ, zero, suc, ◌+◌, ◌-◌, ◌<◌, ◌≤◌, List, [], ◌∷◌, length, get_or, sym, refl, ap, ◌∙◌, arith}
use Rattle.std.specs.List.{AllByRecursion}
use Rattle.rules.specs.Order.{places, reversed, reordered, highest, at, L2}
use Rattle.rules.specs.Stretches.{TwoReversals}
use Rattle.rules.proofs.Reversing.{turned_low}

-- nothing turns where all are low
turned_none : (level : ℕ → ℕ) (k : ℕ) (xs : List ℕ) → ((x : ℕ) → level x < k) → reversed level k xs ≡ xs
turned_none level k [] h = refl
turned_none level k (x ∷ xs) h = turned_low level k [] x xs (h x) ∙ ap (λ l. x ∷ l) (turned_none level k xs h)

pub highest_is : (levels : List ℕ) (p : ℕ) → get_or levels p 0 ≤ highest levels
highest_is [] p = omega arith
highest_is (l ∷ ls) zero = omega arith
highest_is (l ∷ ls) (suc p) = omega (arith, highest_is ls p)

pub highest_most : (levels : List ℕ) (k : ℕ) → AllByRecursion (λ l. l ≤ k) levels → highest levels ≤ k
highest_most [] k h = omega arith
highest_most (l ∷ ls) k h = omega (arith, h.0, highest_most ls k h.1)

-- to begin above the highest level changes nothing
pub begun_above : (levels : List ℕ) (d : ℕ) (xs : List ℕ) → reordered (at levels) (d + highest levels) xs ≡ reordered (at levels) (highest levels) xs
begun_above levels zero xs = let e : 0 + highest levels ≡ highest levels = omega arith in ap (λ n. reordered (at levels) n xs) e
begun_above levels (suc d) xs =
    let e : suc d + highest levels ≡ suc (d + highest levels) = omega arith in
    ap (λ n. reordered (at levels) n xs) e
    ∙ ap (reordered (at levels) (d + highest levels)) (turned_none (at levels) (suc (d + highest levels)) xs (λ p. omega (arith, highest_is levels p)))
    ∙ begun_above levels d xs

pub begun_at : (levels : List ℕ) (k : ℕ) → AllByRecursion (λ l. l ≤ k) levels → L2 levels ≡ reordered (at levels) k (places 0 (length levels))
unfolding L2
begun_at levels k h =
    let e : k - highest levels + highest levels ≡ k = omega (arith, highest_most levels k h) in
    sym (begun_above levels (k - highest levels) (places 0 (length levels)))
    ∙ ap (λ n. reordered (at levels) n (places 0 (length levels))) e

pub two_reversals : TwoReversals
two_reversals levels h = begun_at levels 2 h
