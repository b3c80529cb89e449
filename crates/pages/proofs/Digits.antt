-- Reading one digit more.
use Rattle.std.proofs.Common.{◌≡◌, ℕ, ◌+◌, ◌-◌, ◌*◌, ◌^◌, ◌<◌, ◌≤◌, cond, ltb, List, length, get_or, drop, None, ap, ◌∙◌, arith, le-ltb, lt-ltb}
use native.Mathlib.Nat.{pow-le-pow_right}
use Rattle.std.proofs.lemmas.List.{at_drop_more}
use Rattle.pages.specs.Numbers.{read_on}

module _ (n : ℕ) (bs : List ℕ) (i : ℕ) (h : i < length bs) where
  pub low : get_or bs i 0 < 48 → read_on n (drop i bs) ≡ None
  low lo = at_drop_more (read_on n) bs i 0 h ∙ ap (λ t. cond t None (cond (ltb 57 (get_or bs i 0)) None (read_on (n * 10 + (get_or bs i 0 - 48)) (drop (i + 1) bs)))) (lt-ltb (get_or bs i 0) 48 lo)

  not_low : 48 ≤ get_or bs i 0 → read_on n (drop i bs) ≡ cond (ltb 57 (get_or bs i 0)) None (read_on (n * 10 + (get_or bs i 0 - 48)) (drop (i + 1) bs))
  not_low lo = at_drop_more (read_on n) bs i 0 h ∙ ap (λ t. cond t None (cond (ltb 57 (get_or bs i 0)) None (read_on (n * 10 + (get_or bs i 0 - 48)) (drop (i + 1) bs)))) (le-ltb (get_or bs i 0) 48 lo)

  pub high : 57 < get_or bs i 0 → read_on n (drop i bs) ≡ None
  high hi = not_low (omega arith) ∙ ap (λ t. cond t None (read_on (n * 10 + (get_or bs i 0 - 48)) (drop (i + 1) bs))) (lt-ltb 57 (get_or bs i 0) hi)

  pub digit : 48 ≤ get_or bs i 0 → get_or bs i 0 ≤ 57 → read_on n (drop i bs) ≡ read_on (n * 10 + (get_or bs i 0 - 48)) (drop (i + 1) bs)
  digit lo hi = not_low lo ∙ ap (λ t. cond t None (read_on (n * 10 + (get_or bs i 0 - 48)) (drop (i + 1) bs))) (le-ltb 57 (get_or bs i 0) hi)

-- up to eight digits leave room for one more
pub room : (n i : ℕ) → n < 10 ^ i → i < 9 → n < 100000000
room n i h k = omega (arith, pow-le-pow_right {n = 10} (omega arith) {i = i} {j = 8} (omega arith))
